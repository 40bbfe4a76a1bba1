-- `codes::plain::code_in` meets its contract. The loop's invariant: going on from the bits taken gives what comparing from the first gives. Assumes nothing.
use mathlib.Core.Path.{◌≡◌, sym, ap, ◌∙◌}
use mathlib.Core.Bool.{Bool}
use mathlib.Core.List.{List}
use Prim.Native.Nat.{ℕ, ◌+◌, ◌-◌, ◌*◌, ◌<◌}
use native.Mathlib.Omega.{arith}
use lib.ListN.{length, drop, length-drop}
use lib.Seq.{drop-drop}
use Rattle.rules.specs.Bits.{bits_of, peek}
use Rattle.rules.specs.Codes.{Code, codes_of}
use Rattle.rules.specs.Plain.{Found, lost, candidates, compare, plain}
use Rattle.rules.proofs.Bits.{length-bits_of}
use Rattle.codes.specs.Plain.{verdict_of, codes_in, Listed}
use Rattle.codes.proofs.Verdicts.{saying, all_codes, asks}
use Rattle.codes.proofs.Comparing.{Comparing, word_fits, compare-first, compare-last, next_small, next_fits, compare-no-code, compare-is-code, compare-on}
use Rattle.codes.proofs.plain.code_in.Goals.{After-bit, After-verdict_on, In-loop-before}
use Rattle.codes.proofs.plain.code_in.Goals as goal

-- a bit is left
bit-left : (c : In-loop-before) →
    let s = c.args in
    c.loop-before.before < length (drop s.at (bits_of s.src.now))
bit-left c = omega (arith, c.loop-before-test.true, length-drop c.args.at (bits_of c.args.src.now), length-bits_of c.args.src.now)

-- what was compared before a bit is read, and the next bit of the data
so_far : (c : After-bit) →
    Comparing c.requires.0.colour (drop c.args.at (bits_of c.args.src.now)) c.loop-before.before c.loop-before.word
so_far c = c.loop-before.invariant c.requires.0

next_bit : (c : After-bit) →
    let s = c.args in
    c.bit.result ≡ peek 1 (drop c.loop-before.before (drop s.at (bits_of s.src.now)))
next_bit c =
    let s = c.args in
    c.bit.ensures ∙ ap (peek 1) (sym (drop-drop c.loop-before.before s.at (bits_of s.src.now)))

-- the verdict is that of all codes of the colour
said-by : (c : After-verdict_on) →
    let a = c.args in
    let l = c.loop-before in
    (h : Listed a.terminating.now a.makeup.now a.common.now) → verdict_of c.verdict_on.result ≡ saying (l.before + 1) (2 * l.word + c.bit.result) (codes_of h.colour)
said-by c h =
    c.verdict_on.ensures ∙ ap (saying _ _) (all_codes h.colour _ c.args.makeup.now _ h.terminating h.makeup h.common)

-- the codes of the tables are those of the colour
in_tables : {t m k : List (List ℕ)} (h : Listed t m k) {f : Found} (ds : List Bool) → f ≡ plain h.colour ds → f ≡ compare 0 (candidates (codes_in t m k)) ds
unfolding plain
in_tables {t} {m} {k} h ds e =
    e ∙ ap (λ (cs : List Code). compare 0 (candidates cs) ds) (sym (all_codes h.colour _ m _ h.terminating h.makeup h.common))

pub loop-before-init : goal.loop-before-init
loop-before-init c h = compare-first _ _

pub overflow_mul-word : goal.overflow_mul-word
overflow_mul-word c = omega (arith, word_fits (c.loop-before.invariant c.requires.0))

pub overflow_add-at : goal.overflow_add-at
overflow_add-at c = omega (arith, c.loop-before-test.true, c.requires.1)

pub bit-requires : goal.bit-requires
bit-requires c = omega (arith, c.loop-before-test.true)

pub overflow_add-word : goal.overflow_add-word
overflow_add-word c = omega (arith, next_fits (so_far c) (bit-left (goal.at.overflow_add-word c).In-loop-before) c.bit.result (next_bit c))

pub overflow_add-taken : goal.overflow_add-taken
overflow_add-taken c = omega (arith, (so_far c).few)

pub verdict_on-requires : goal.verdict_on-requires
verdict_on-requires d =
    let h = d.requires.0 in
    asks h.colour _ d.args.makeup.now _ h.terminating h.makeup h.common (next_small (so_far d) (bit-left (goal.at.verdict_on-requires d).In-loop-before) d.bit.result (next_bit d))

pub returns-in-NoCode : goal.returns-in-NoCode
returns-in-NoCode c =
    in_tables c.requires.0 _
    (compare-no-code (so_far (goal.at.returns-in-NoCode c).After-bit) (bit-left (goal.at.returns-in-NoCode c).In-loop-before) c.bit.result (next_bit (goal.at.returns-in-NoCode c).After-bit) (ap verdict_of (sym c.in-NoCode.is) ∙ said-by (goal.at.returns-in-NoCode c).After-verdict_on c.requires.0))

pub returns-in-IsCode : goal.returns-in-IsCode
returns-in-IsCode c =
    in_tables c.requires.0 _
    (compare-is-code (so_far (goal.at.returns-in-IsCode c).After-bit) (bit-left (goal.at.returns-in-IsCode c).In-loop-before) c.bit.result (next_bit (goal.at.returns-in-IsCode c).After-bit) _ (ap verdict_of (sym c.in-IsCode.is) ∙ said-by (goal.at.returns-in-IsCode c).After-verdict_on c.requires.0))

pub loop-before-preserved : goal.loop-before-preserved
loop-before-preserved c h =
    compare-on (c.loop-before.invariant h) (bit-left (goal.at.loop-before-preserved c).In-loop-before) c.bit.result (next_bit (goal.at.loop-before-preserved c).After-bit)
    (ap verdict_of (sym c.in-MoreBits.is) ∙ said-by (goal.at.loop-before-preserved c).After-verdict_on h)

pub returns : goal.returns
returns c =
    let all : 8 * length c.args.src.now - c.args.at ≡ c.loop-before.before = omega (arith, c.loop-before-test.false, c.loop-before.auto.before-end) in
    in_tables c.requires.0 _
    (ap (lost 2) all ∙ compare-last (c.loop-before.invariant c.requires.0) (omega (arith, c.loop-before-test.false, length-drop c.args.at (bits_of c.args.src.now), length-bits_of c.args.src.now)))
