-- The contracts of the inner functions settle their answers, but for what a buffer holds far ahead and from where the next search starts. Assumes nothing.
use mathlib.Core.Path.{◌≡◌, refl, sym, ◌∙◌, ap}
use mathlib.Core.Bool.{Bool, true, false}
use mathlib.Core.List.{List}
use mathlib.Core.Option as Numbered
use Rattle.std.specs.Prelude.{Option, Some, None, Result, Ok, Err}
use Prim.Native.Nat.{ℕ, zero, suc, ◌+◌, ◌*◌, ◌<◌}
use native.Mathlib.Omega.{arith}
use lib.Dec.{ltb}
use lib.IntN.{pos, negsuc}
use lib.ListN.{length, drop}
use borrow.Author.Tests.{ltb-true, ltb-false}
use Rattle.rules.specs.Bits.{bits_of, peek}
use Rattle.rules.specs.Machine.{Out, more, done}
use Rattle.rules.specs.Runs.{Res, ok, fault, Sum, sum, read_run}
use Rattle.rules.specs.Plain as Plain
use Rattle.rules.specs.Modes as Rule
use Rattle.rules.specs.Modes.{pass, horizontal, VR, VL, Moded}
use Rattle.answer.specs.Answer.{number_of}
use Rattle.answer.specs.declared.DecodeError.{DecodeError}
use Rattle.answer.specs.declared.DecodeError.TheVariants.{UnexpectedEof, InvalidCode, Overflow}
use Rattle.bit_reader.specs.Loaded.{Loaded, LoadedAt}
use Rattle.bit_reader.specs.declared.buffer.Buffer.{Buffer}
use Rattle.codes.specs.Eols.{eols_of, skip_of}
use Rattle.codes.specs.Modes.{mode_of}
use Rattle.codes.specs.Plain.{found_of}
use Rattle.codes.specs.Runs.{run_of, code_of, LoadedAfter}
use Rattle.codes.specs.declared.fault.Fault.{Fault}
use Rattle.codes.specs.declared.mode.Mode.{Mode}
use Rattle.codes.specs.declared.mode.Mode.TheVariants.{Pass, Horizontal, Vertical}
use Rattle.codes.specs.declared.plain.Code.{Code}
use Rattle.codes.specs.declared.plain.LostCode.{LostCode}
use Rattle.codes.specs.declared.run.RunCode.{RunCode}
use Rattle.codes.specs.declared.run.RunCode.TheVariants as OfRun
use Rattle.context.specs.Places.{B1At}
use Rattle.one_line.specs.declared.one_code.OneCode.TheVariants.{Runs, Did}
use Rattle.promises.specs.PinnedInside as Pinned
use Rattle.promises.specs.PinnedInside.{Alike, AlikeRuns}
use Rattle.promises.proofs.OneAnswer.{settled, settled-with, settled-by}

-- ---- tables

pub code-pinned : Pinned.CodePinned
code-pinned c = settled (λ r g i. record { size = g.same_size i; word = g.same_word i })

-- ---- bit_reader

pub peek13-pinned : Pinned.Peek13Pinned
peek13-pinned bs = settled (λ r g. g.value)

pub ahead-pinned : Pinned.AheadPinned
ahead-pinned bytes at live = settled (λ r g. g.holds)

pub top13-pinned : Pinned.Top13Pinned
top13-pinned bytes b l = settled (λ r g. g.value bytes l)

-- buffers that hold the same data at one bit
alike : (bytes : List ℕ) (b c : Buffer) → Loaded bytes b → Loaded bytes c → b.at ≡ c.at → Alike b c
alike bytes b c l m e =
    record { place = e; top = λ r s g h. g.value bytes l ∙ ap (λ (at : ℕ). peek 13 (drop at (bits_of bytes))) e ∙ sym (h.value bytes m) }

pub load-pinned : Pinned.LoadPinned
load-pinned bytes at b c g h = alike bytes b c g.loaded h.loaded (g.place ∙ sym h.place)

-- a buffer at a bit is inside the data
not_behind : {A : Type 0} (bytes : List ℕ) (at next : ℕ) (b : Buffer) → LoadedAt bytes at b → at ≡ next → 8 * length bytes < next → A
not_behind bytes at next b g e h = absurd (omega arith)

pub feed-pinned : Pinned.FeedPinned
feed-pinned bytes b c n (Some x) (Some y) e g h = alike bytes x y g.loaded h.loaded (g.place ∙ ap (λ (at : ℕ). at + n) e ∙ sym h.place)
feed-pinned bytes b c n (Some x) None e g h = not_behind bytes (b.at + n) (c.at + n) x g (ap (λ (at : ℕ). at + n) e) h
feed-pinned bytes b c n None (Some y) e g h = not_behind bytes (c.at + n) (b.at + n) y h (ap (λ (at : ℕ). at + n) (sym e)) g
feed-pinned bytes b c n None None e g h = tt

-- ---- codes

-- the error of a number
abbrev error_from : ℕ → DecodeError
error_from zero = InvalidCode
error_from (suc zero) = InvalidCode
error_from (suc (suc zero)) = UnexpectedEof
error_from (suc (suc (suc n))) = Overflow

error-back : (e : DecodeError) → error_from (number_of e) ≡ e
error-back InvalidCode = refl
error-back UnexpectedEof = refl
error-back Overflow = refl

-- the answer with an error at a bit
abbrev faulted : {A : Type 0} → ℕ → DecodeError → Result A Fault
faulted place e = Err (record { error = e; at = place })

runs-alike : (bytes : List ℕ) (r s : Result (ℕ × Buffer) Fault) → LoadedAfter bytes r → LoadedAfter bytes s → run_of r ≡ run_of s → AlikeRuns r s
runs-alike bytes (Ok (n, b)) (Ok (m, c)) l k e = let q : sum b.at n ≡ sum c.at m = cc in (ap (λ (t : Sum). t.total) q, alike bytes b c l k (ap (λ (t : Sum). t.at) q))
runs-alike bytes (Ok (n, b)) (Err f) l k e = let z : ◌≡◌ {A = ℕ} 0 1 = cc in omega arith
runs-alike bytes (Err f) (Ok (m, c)) l k e = let z : ◌≡◌ {A = ℕ} 0 1 = cc in omega arith
runs-alike bytes (Err f) (Err g) l k e =
    let q : number_of f.error ≡ number_of g.error = cc in (sym (error-back f.error) ∙ ap error_from q ∙ error-back g.error, cc)

pub read-run-pinned : Pinned.ReadRunPinned
read-run-pinned colour bytes b c r s e g h = runs-alike bytes r s g.loaded h.loaded (g.same ∙ ap (read_run colour (bits_of bytes)) e ∙ sym h.same)

pub read-run-plain-pinned : Pinned.ReadRunPlainPinned
read-run-plain-pinned colour bytes at r s g h = runs-alike bytes r s g.loaded h.loaded (g.same ∙ sym h.same)

pub front-run-pinned : Pinned.FrontRunPinned
front-run-pinned table first bits = settled (λ r g. g.is)

abbrev lost_by : ℕ → DecodeError → Result Code LostCode
lost_by taken e = Err (record { error = e; taken = taken })

abbrev found_from : Plain.Found → Result Code LostCode
found_from (Plain.found run taken) = Ok (record { run = run; taken = taken })
found_from (Plain.lost n taken) = lost_by taken (error_from n)

found_back : (r : Result Code LostCode) → found_from (found_of r) ≡ r
found_back (Ok c) = refl
found_back (Err l) = ap (lost_by l.taken) (error-back l.error)

pub read-code-pinned : Pinned.ReadCodePinned
read-code-pinned colour bytes at = settled-by found_of found_from found_back _

pub look-up-pinned : Pinned.LookUpPinned
look-up-pinned colour bytes at = settled-by found_of found_from found_back _

abbrev code_from : Out Sum (Res Sum) → Result RunCode Fault
code_from (more s) = Ok (OfRun.More s.total s.at)
code_from (done (ok s)) = Ok (OfRun.Last s.total s.at)
code_from (done (fault n place)) = faulted place (error_from n)

code-back : (r : Result RunCode Fault) → code_from (code_of r) ≡ r
code-back (Ok (OfRun.Last total at)) = refl
code-back (Ok (OfRun.More total at)) = refl
code-back (Err e) = ap (faulted e.at) (error-back e.error)

pub one-run-code-pinned : Pinned.OneRunCodePinned
one-run-code-pinned colour bytes at total = settled-by code_of code_from code-back _

-- the mode that has one of the rules as its meaning; none has 0 to the left
abbrev mode_stands : Rule.Mode → Mode
mode_stands pass = Pass
mode_stands horizontal = Horizontal
mode_stands (VR k) = Vertical (pos k)
mode_stands (VL zero) = Pass
mode_stands (VL (suc k)) = Vertical (negsuc k)

abbrev mode_from : Res Moded → Result (Mode × ℕ) Fault
mode_from (ok m) = Ok (mode_stands m.mode, m.at)
mode_from (fault n place) = faulted place (error_from n)

mode-back : (r : Result (Mode × ℕ) Fault) → mode_from (mode_of r) ≡ r
mode-back (Ok (Pass, next)) = refl
mode-back (Ok (Horizontal, next)) = refl
mode-back (Ok (Vertical (pos k), next)) = refl
mode-back (Ok (Vertical (negsuc k), next)) = refl
mode-back (Err e) = ap (faulted e.at) (error-back e.error)

pub read-mode-pinned : Pinned.ReadModePinned
read-mode-pinned bytes at = settled-by mode_of mode_from mode-back _

pub read-eols-pinned : Pinned.ReadEolsPinned
read-eols-pinned bytes from most = settled-by eols_of (λ e. record { count = e.count; at = e.at }) (λ r. refl) _

abbrev skip_from : Numbered.Option ℕ → Option ℕ
skip_from (Numbered.some at) = Some at
skip_from Numbered.none = None

skip-back : (r : Option ℕ) → skip_from (skip_of r) ≡ r
skip-back (Some at) = refl
skip-back None = refl

pub skip-to-eol-pinned : Pinned.SkipToEolPinned
skip-to-eol-pinned bytes from = settled-by skip_of skip_from skip-back _

-- ---- context

-- whatever bit the line stands at, and whatever place a fault would have
pub push-pixels-pinned : Pinned.PushPixelsPinned
push-pixels-pinned xs l count strict = settled-with (λ r ys g. ((g 0 0).answer, (g 0 0).store))

pub find-pinned : Pinned.FindPinned
find-pinned reference width position colour r s g h = (g.b1-is ∙ sym h.b1-is, g.b2-is ∙ sym h.b2-is)

-- Of two places of one parity the change at the left one would lie left of a0, and right of it.
apart : (reference : List ℕ) (position colour r s : ℕ) → B1At reference position colour r → B1At reference position colour s → r < s → ⊥
apart reference position colour r s g h k =
    let there : r < length reference = omega (arith, g.parity, h.parity, h.near) in
    omega (arith, g.seen.right there, h.seen.left r (omega (arith, g.parity, h.parity)) there)

pub b1-from-pinned : Pinned.B1FromPinned
b1-from-pinned reference position colour r s g h = cases (ltb r s) refl (ltb s r) refl
  where
    cases : (a : Bool) → ltb r s ≡ a → (b : Bool) → ltb s r ≡ b → r ≡ s
    cases true p b q = absurd (apart reference position colour r s g h (ltb-true r s p))
    cases false p true q = absurd (apart reference position colour s r h g (ltb-true s r q))
    cases false p false q = omega (arith, ltb-false r s p, ltb-false s r q)

pub steps-pinned : Pinned.StepsPinned
steps-pinned width xs w = settled-with (λ r ys g. (g.answer, g.store))

pub line-pinned : Pinned.LinePinned
line-pinned base width xs w = settled-with (λ r ys g. (g.answer, g.store))

pub mode-code-pinned : Pinned.ModeCodePinned
mode-code-pinned bytes xs l at b1 b2 rules reference e1 e2 (Runs n) (Runs m) ys zs g h =
    (ap Runs (ap next (sym g.0 ∙ h.0)), g.1 ∙ sym h.1)
  where
    next : Res Moded → ℕ
    next (ok m) = m.at
    next (fault n place) = 0
mode-code-pinned bytes xs l at b1 b2 rules reference e1 e2 (Runs n) (Did s) ys zs g h = absurd (h.0 n g.0)
mode-code-pinned bytes xs l at b1 b2 rules reference e1 e2 (Did s) (Runs n) ys zs g h = absurd (g.0 n h.0)
mode-code-pinned bytes xs l at b1 b2 rules reference e1 e2 (Did s) (Did t) ys zs g h =
    let once = steps-pinned l.width xs _ s t ys zs (g.1 reference e1 e2) (h.1 reference e1 e2) in
    (ap Did once.0, once.1)

-- ---- group4 and group3

pub row-pinned : Pinned.RowPinned
row-pinned base xs w = settled-with (λ r ys g. (g.answer, g.store))
