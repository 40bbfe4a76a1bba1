-- With less fill than three zeros a bad 1D line costs its own row alone where its reading, with the fill and the EOL behind it, ends no further than the fill. A line that was written always
-- does: it is read to its last bit. Assumes nothing.
use mathlib.Core.Path.{◌≡◌, sym, ap, ◌∙◌}
use mathlib.Core.Bool.{Bool, true, false}
use mathlib.Core.List.{List, [], ◌∷◌, ◌++◌, append_assoc}
use mathlib.Core.Option.{some}
use Prim.Native.Nat.{ℕ, ◌+◌, ◌-◌, ◌≤◌, ◌<◌}
use native.Mathlib.Omega.{arith}
use lib.ListN.{length, drop, replicate, length-append, length-replicate}
use borrow.Author.Tests.{leb-true}
use Rattle.rules.specs.Lines.{Rules, Line, Went, went, line_in, one, read_line}
use Rattle.rules.specs.Eols.{zero_run}
use Rattle.rules.specs.Group3.{untagged}
use Rattle.rules.specs.Rows.{Settings, rules_of}
use Rattle.rules.specs.Write.{eol_bits}
use Rattle.rules.specs.Rising.{Rising}
use Rattle.rules.specs.Damage.{found, no_eol, stray, Arrived, own, other, may_arrive, may_all, ends_by, stops_by, all_stop}
use Rattle.rules.proofs.Bits.{both_true}
use Rattle.rules.proofs.Agree.{Agree}
use Rattle.rules.proofs.Ascending.{ascends-rises, rises-length}
use Rattle.rules.proofs.Lines.{read_whole}
use Rattle.rules.proofs.Local.{read-local}
use Rattle.rules.proofs.Moved.{line_back, line-from}
use Rattle.rules.proofs.ReadBack.{read-line}
use Rattle.rules.proofs.LessRoom.{changes_of, Cut, same, short, line-cut}
use Rattle.rules.proofs.Barrier.{eol-bound}
use Rattle.rules.proofs.CutPage.{agrees}
use Rattle.rules.proofs.PageBack.{eol-zeros}
use Rattle.rules.proofs.EolChains.{zeros-then, eol-long}
use Rattle.rules.proofs.NextEol.{towards-ahead, Leads, leads}
use Rattle.rules.proofs.NoEolInside.{line_stays}
use Rattle.rules.proofs.Mending.{Stops, StopAll, none-goes, stops-and}
use Rattle.rules.proofs.BadLines.{comes, come}

module _ (S : Settings) (lenient : S.strict ≡ false) (inexact : S.exact ≡ false) (wide : 0 < S.columns) (narrow : S.columns ≤ 4294967295) (fill : ℕ) where
  abbrev W : ℕ
  W = S.columns

  abbrev R₀ : ℕ → Rules
  R₀ room = record { width = W; strict = false; exact = false; room = room }

  rules-are : (room : ℕ) → rules_of S room ≡ R₀ room
  rules-are room = λ i. record { width = W; strict = lenient i; exact = inexact i; room = room }

  -- a line that was read with more room than it is wide is read with as much
  less-room : (bs : List Bool) (at room : ℕ) → W ≤ room → (x : Line) → read_line (R₀ room) one bs at ≡ went x → read_line (R₀ W) one bs at ≡ went x
  less-room bs at room roomy x q = by (read_line (R₀ W) one bs at) (read_line (R₀ room) one bs at) (line-cut W false false W room roomy one bs at) q
    where
      by : (v w : Went) → Cut W v w → w ≡ went x → v ≡ went x
      by v w (same h) e = e
      by v w (short h c) e =
          let few = rises-length {width = W} (omega arith) (read_whole (R₀ room) wide one bs at x q).rising in
          absurd (omega (arith, few, ap (λ (z : Went). length (changes_of z)) e))

  other-stops : (bits : List Bool) → stray bits ≡ true → stops_by W fill bits ≡ true → Stops untagged S fill (comes (other bits))
  unfolding stops_by
  other-stops bits strays stops bs room above reference e later roomy up there x q =
      omega (arith, from.0, leb-true (x.at - e) (length bits + fill) (ap (ends_by (length bits + fill)) (sym alone) ∙ stops))
    where
      gap : List Bool
      gap = replicate fill false ++ eol_bits

      all : drop e bs ≡ bits ++ (gap ++ later)
      all = there ∙ ap (λ (l : List Bool). bits ++ l) (sym (append_assoc (replicate fill false) eol_bits later))

      d : Leads bs e 0 bits (replicate fill false ++ (eol_bits ++ later))
      d = leads bs _ bits 0 e (both_true (found (zero_run bits)) (no_eol 0 bits) strays).1 there

      zeros : ℕ
      zeros = d.trailing + (fill + 11)

      run : zero_run (drop d.start bs) ≡ some zeros
      run = ap zero_run d.there ∙ zeros-then d.trailing _ (fill + 11) (zeros-then fill (eol_bits ++ later) 11 (eol-zeros later))

      -- it takes three of the zeros at most
      stays : x.at ≤ d.start + 3
      stays = (line_stays (rules_of S room) one bs (d.start + 3) (eol-bound bs d.start zeros run (omega arith)) e (omega (arith, towards-ahead bs d.past)) x q).1

      from : (e ≤ x.at) × (read_line (R₀ W) one (drop e bs) 0 ≡ went (line_back bs e x))
      from =
          let f = line-from bs e (R₀ W) x (less-room bs e room roomy x (ap (λ (R : Rules). read_line R one bs e) (sym (rules-are room)) ∙ q)) in
          (f.0, f.1)

      long : length (bits ++ gap) ≡ length bits + (fill + 12)
      long = omega (arith, length-append bits gap, length-append (replicate fill false) eol_bits, length-replicate fill false, eol-long)

      first : (bits ++ gap) ++ later ≡ drop e bs
      first = append_assoc bits gap later ∙ sym all

      agree : Agree (x.at - e) (drop e bs) (bits ++ gap)
      agree =
          let a = agrees (drop e bs) (bits ++ gap) later first (x.at - e) (omega (arith, long, stays, d.size)) in
          record { same = sym a.same; long = a.long'; long' = a.long }

      alone : read_line (R₀ W) one (bits ++ gap) 0 ≡ went (line_back bs e x)
      alone = read-local (R₀ W) (drop e bs) (bits ++ gap) one 0 (line_back bs e x) from.1 agree

  own-stops : (r : List ℕ) → Rising W 0 r → Stops untagged S fill (comes (own r))
  own-stops r up bs room above reference e later roomy _ there x q =
      let p = read-line (rules_of S room) wide narrow one tt r up (omega (arith, rises-length {width = W} (omega arith) up)) bs (replicate fill false ++ (eol_bits ++ later)) e there in
      omega (arith, ap (λ (w : Went). (line_in w).at) (sym q ∙ p.1))

  pub all-stop : (ls : List Arrived) → may_all W ls ≡ true → all_stop W fill ls ≡ true → StopAll untagged S fill (come ls)
  unfolding come may_all all_stop
  all-stop [] may stop = none-goes
  all-stop (own r ∷ ls) may stop = let p = both_true (may_arrive W (own r)) (may_all W ls) may in stops-and (own-stops r (ascends-rises W 0 r p.0)) (all-stop ls p.1 stop)
  all-stop (other bits ∷ ls) may stop =
      let p = both_true (may_arrive W (other bits)) (may_all W ls) may in
      let s = both_true (stops_by W fill bits) (all_stop W fill ls) stop in
      stops-and (other-stops bits p.0 s.0) (all-stop ls p.1 s.1)
