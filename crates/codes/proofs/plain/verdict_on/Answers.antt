-- `codes::plain::verdict_on` meets its contract. The loop's invariant: what was met, and what the codes from the i-th on say, is what all say. Assumes nothing.
use mathlib.Core.Path.{◌≡◌, sym, ap, ◌∙◌}
use Rattle.rules.specs.Plain.{is_code, no_code}
use Rattle.codes.specs.Plain.{codes_in}
use Rattle.codes.proofs.Verdicts.{saying, with_met, look-first, look-last, asked-count, Turn, turn-words, turn-is-code, turn-met, turn_on}
use Rattle.codes.proofs.plain.verdict_on.Goals.{After-from, then-begins+else-size-taken, else-begins}
use Rattle.codes.proofs.plain.verdict_on.Goals as goal

-- what a turn knows once it has the row
turn : (c : After-from) →
    let a = c.args in
    let l = c.loop-i in
    Turn a.terminating.now a.makeup.now a.common.now a.taken a.word l.begun l.i c.row_at-row.result c.from-size.result c.from.result
turn c = record {
  asked = c.requires;
  looking = c.loop-i.invariant;
  more = c.loop-i-test.true;
  row_is = c.row_at-row.ensures;
  size_is = c.from-size.ensures;
  code_is = c.from.ensures;
}

pub loop-i-init : goal.loop-i-init
loop-i-init c = look-first _ _ _

pub begins-requires : goal.begins-requires
begins-requires c = turn-words (turn c)

pub returns-then-size-taken : goal.returns-then-size-taken
returns-then-size-taken c =
    ap is_code c.from-then-size-taken.ensures ∙ turn-is-code (turn (goal.at.returns-then-size-taken c).After-from) c.begins.result c.begins.ensures c.if-begins.true c.if-size-taken.true

pub loop-i-preserved : goal.loop-i-preserved
loop-i-preserved c =
    let t = turn (goal.at.loop-i-preserved c).After-from in
    elim c.if-begins.branch [
      | then-begins+else-size-taken w ↦ rw w.begun-is (turn-met t c.begins.result c.begins.ensures w.if-begins.true w.if-size-taken.false)
      | else-begins w ↦ rw w.begun-is (turn_on t c.begins.result c.begins.ensures w.if-begins.false)
    ]

pub returns-then-begun : goal.returns-then-begun
returns-then-begun c = sym (ap (λ b. with_met b no_code) c.if-begun.true) ∙ (let h-all_seen : let a = c.args in with_met c.loop-i.begun no_code ≡ saying a.taken a.word (codes_in a.terminating.now a.makeup.now a.common.now) = look-last (asked-count c.requires) c.loop-i.invariant c.loop-i-test.false in h-all_seen)

pub returns : goal.returns
returns c = sym (ap (λ b. with_met b no_code) c.if-begun.false) ∙ (let h-all_seen : let a = c.args in with_met c.loop-i.begun no_code ≡ saying a.taken a.word (codes_in a.terminating.now a.makeup.now a.common.now) = look-last (asked-count c.requires) c.loop-i.invariant c.loop-i-test.false in h-all_seen)
