-- A pair, by the codes of its two runs or by the pair table's entry, whatever tables were lent for it. Assumes nothing.
use mathlib.Core.Path.{◌≡◌, refl, ap, ◌∙◌}
use mathlib.Core.Bool.{Bool, true, false, cond}
use Prim.Native.Nat.{ℕ, ◌+◌, ◌*◌, ◌/◌, ◌%◌, ◌^◌, ◌<◌}
use native.Mathlib.Omega.{arith}
use lib.Dec.{eqb}
use lib.ListN.{get_or}
use borrow.Author.Tests.{eqb-false}
use Rattle.rules.specs.Codes.{white, black}
use Rattle.rules.specs.Lookup.{lookup_table}
use Rattle.rules.specs.Runs.{ok, sum}
use Rattle.tables.specs.Pairs.{pair_table}
use Rattle.bit_reader.proofs.Window.{ahead-shift}
use Rattle.codes.specs.Fronts.{Fronted}
use Rattle.codes.specs.declared.front.Front.{Front}
use Rattle.swift_loops.specs.Pairs.{Paired, both_of, entry_pair}
use Rattle.swift_loops.proofs.Fronting.{front-known, front_reads}
use Rattle.swift_loops.proofs.PairEntries.{entry-both, entry_runs}

-- a black run at the front of some bits, and a white one at the front of those behind it
module _ {top window top' : ℕ} {one two : Front} (first-is : Fronted (lookup_table black) (get_or (lookup_table black) top 0) window one)
    (behind : top' ≡ window * 2 ^ one.size % 2 ^ 64 / 2 ^ 51)
    (second_is : Fronted (lookup_table white) (get_or (lookup_table white) top' 0) (window * 2 ^ one.size % 2 ^ 64) two) where
  pub codes-paired : Paired top window (both_of one two)
  codes-paired = cases (eqb one.pixels 0) refl
    where
      cases : (z : Bool) → eqb one.pixels 0 ≡ z
          → Paired top window (cond z (record { black = 0; white = 0; size = 0 }) (record { black = one.pixels; white = two.pixels; size = one.size + two.size }))
      cases true e = record { few = omega arith; narrow = omega arith; both = λ h. absurd (omega arith); read = λ bytes at live h k t some. absurd (omega arith) }
      cases false e =
          let has : 0 < one.pixels = omega (arith, eqb-false one.pixels 0 e) in
          record {
            few = omega (arith, first-is.few, second_is.few);
            narrow = omega (arith, first-is.narrow, second_is.narrow);
            both = λ h. has;
            read = λ bytes at live h k t some.
                let first = front-known black refl h (omega arith) t first-is (omega (arith, has)) in
                let second = front_reads white refl (ahead-shift h one.size (omega (arith, first.within))) (omega (arith, first.within)) behind second_is (omega (arith, some)) in
                let end : at + one.size + two.size ≡ at + (one.size + two.size) = omega arith in
                record {
                  middle = at + one.size;
                  first = first.same;
                  second = second.same ∙ ap (λ (n : ℕ). ok (sum n two.pixels)) end;
                };
          }

-- an entry that is not 0
pub entry-paired : {top window entry : ℕ} → top < 8192 → entry ≡ get_or pair_table (top / 4) 0 → (entry ≡ 0 → ⊥) → entry < 65536 → Paired top window (entry_pair entry)
entry-paired {top} {window} {entry} small is some fits = rw is (record {
  few = omega (arith, fits, is);
  narrow = omega arith;
  both = λ h. entry-both refl top small (λ z. some (is ∙ z));
  read = λ bytes at live h k t white. entry_runs refl h k top t (λ z. some (is ∙ z));
})
