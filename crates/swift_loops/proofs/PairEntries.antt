-- A pair of runs by the pair table's entry for the first 11 bits, whatever bits follow them. Assumes nothing.
use mathlib.Core.Path.{◌≡◌, refl, sym, ap, ◌∙◌}
use mathlib.Core.Bool.{Bool}
use mathlib.Core.List.{List, [], ◌∷◌}
use Prim.Native.Nat.{ℕ, zero, suc, ◌+◌, ◌-◌, ◌*◌, ◌/◌, ◌%◌, ◌^◌, ◌≤◌, ◌<◌}
use native.Mathlib.Omega.{arith}
use lib.ListN.{length, get_or, drop, length-drop}
use lib.Seq.{drop-drop}
use Rattle.rules.specs.Bits.{bits_of, window, peek, bits_for}
use Rattle.rules.specs.Codes.{Colour, white, black, code_bits}
use Rattle.rules.specs.Lookup.{valid, lookup, entry_number}
use Rattle.rules.specs.Runs.{ok, sum}
use Rattle.rules.proofs.Bits.{length-bits_of, peek-high, peek-lt, bits-peek}
use Rattle.rules.proofs.Codes.{shape, length-code_bits}
use Rattle.rules.proofs.Lookup.{length-tabulate, begins-window, lookup-code, lookup-valid}
use Rattle.tables.specs.Pairs.{pair_in, pair_table}
use Rattle.tables.proofs.PairTable.{PairEntry, pair-at, pair-entry}
use Rattle.bit_reader.specs.Loaded.{Ahead}
use Rattle.bit_reader.proofs.Window.{ahead-shift}
use Rattle.codes.specs.Fronts.{FrontRun}
use Rattle.codes.proofs.Fronts.{one_code}
use Rattle.swift_loops.specs.Pairs.{PairRun, entry_pair}

-- a code that begins fewer bits than 13 begins these too
lookup-longer : (colour : Colour) (n : ℕ) (bs : List Bool) (run size : ℕ) → 13 ≤ length bs → lookup colour (window n bs) ≡ valid run size → lookup colour (window 13 bs) ≡ valid run size
lookup-longer colour n bs run size long e =
    let v = lookup-valid colour (window n bs) run size e in
    let c = v.code in
    ap (λ (l : List Bool). lookup colour (window 13 l)) (begins-window (code_bits c) n bs v.begun (omega (arith, length-code_bits c, (shape colour c v.member).few_bits)))
    ∙ lookup-code colour c v.member (drop (length (code_bits c)) bs)
    ∙ (λ i. valid (v.run_is i) (v.size_is i))

drop-window : (s n : ℕ) (bs : List Bool) → drop s (window n bs) ≡ window (n - s) (drop s bs)
unfolding window
drop-window zero n bs = let e : n ≡ n - 0 = omega arith in ap (λ (k : ℕ). window k bs) e
drop-window (suc s) zero bs = let e : 0 ≡ 0 - suc s = omega arith in ap (λ (k : ℕ). window k (drop (suc s) bs)) e
drop-window (suc s) (suc n) [] = let e : n - s ≡ suc n - suc s = omega arith in drop-window s n [] ∙ ap (window (n - s)) (none s) ∙ ap (λ (k : ℕ). window k []) e
  where
    none : (s : ℕ) → drop {A = Bool} s [] ≡ []
    none zero = refl
    none (suc s) = refl
drop-window (suc s) (suc n) (b ∷ bs) = let e : n - s ≡ suc n - suc s = omega arith in drop-window s n bs ∙ ap (λ (k : ℕ). window k (drop s bs)) e

-- an entry for each 11 bits
pub pair-table-length : {both : List ℕ} → both ≡ pair_table → length both ≡ 2048
unfolding pair_table
pair-table-length t = ap length t ∙ length-tabulate _ 2048 0

-- the entry that the first 13 bits have
module _ {both : List ℕ} (t : both ≡ pair_table) where
  pub entry_in : (top : ℕ) → top < 8192 → get_or both (top / 4) 0 ≡ pair_in (bits_for 11 (top / 4))
  entry_in top h = ap (λ (l : List ℕ). get_or l (top / 4) 0) t ∙ pair-at (top / 4) (omega arith)

  -- has both runs or none
  pub entry-both : (top : ℕ) → top < 8192 → (get_or both (top / 4) 0 ≡ 0 → ⊥) → 0 < get_or both (top / 4) 0 % 64
  entry-both top h some =
      let e = entry_in top h in
      let p = pair-entry (bits_for 11 (top / 4)) (λ z. some (e ∙ z)) in
      omega (arith, e, p.number, p.some-black, p.few-black)

  module _ {bytes : List ℕ} {at live bits : ℕ} (h : Ahead bytes at live bits) (enough : 57 ≤ live) where
    abbrev bs : List Bool
    bs = bits_of bytes

    module _ (p : PairEntry (window 11 (drop at (bits_of bytes))) (pair_in (window 11 (drop at (bits_of bytes))))) where
      long : 57 ≤ length (drop at bs)
      long = omega (arith, length-drop at bs, length-bits_of bytes, h.there)

      black-is : p.run + 4096 * p.size ≡ entry_number (lookup black (window 13 (drop at bs)))
      black-is = ap entry_number (sym (lookup-longer black 11 (drop at bs) p.run p.size (omega (arith, long)) p.first))

      first : FrontRun black bytes at (record { pixels = (p.run + 4096 * p.size) % 4096; size = (p.run + 4096 * p.size) / 4096 })
      first = one_code black h (omega arith) black-is (omega (arith, p.few-black))

      size_is : (p.run + 4096 * p.size) / 4096 ≡ p.size
      size_is = omega (arith, p.few-black)

      run_is : (p.run + 4096 * p.size) % 4096 ≡ p.run
      run_is = omega (arith, p.few-black)

      behind : Ahead bytes (at + p.size) (live - p.size) (bits * 2 ^ p.size % 2 ^ 64)
      behind = ahead-shift h p.size (omega (arith, first.within, size_is))

      white-is : p.run' + 4096 * p.size' ≡ entry_number (lookup white (window 13 (drop (at + p.size) bs)))
      white-is =
          let e : drop p.size (drop at bs) ≡ drop (at + p.size) bs = drop-drop p.size at bs in
          let q : lookup white (window (11 - p.size) (drop (at + p.size) bs)) ≡ valid p.run' p.size' = ap (λ (l : List Bool). lookup white (window (11 - p.size) l)) (sym e) ∙ ap (lookup white) (sym (drop-window p.size 11 (drop at bs))) ∙ p.second in
          ap entry_number (sym (lookup-longer white (11 - p.size) (drop (at + p.size) bs) p.run' p.size' (omega (arith, length-drop (at + p.size) bs, length-bits_of bytes, behind.there, first.within, size_is)) q))

      second : FrontRun white bytes (at + p.size) (record { pixels = (p.run' + 4096 * p.size') % 4096; size = (p.run' + 4096 * p.size') / 4096 })
      second = one_code white behind (omega (arith, first.within, size_is)) white-is (omega (arith, p.few-white))

      pair_runs : PairRun bytes at (entry_pair (p.run + 64 * p.run' + 4096 * (p.size + p.size')))
      pair_runs =
          let end : at + p.size + (p.run' + 4096 * p.size') / 4096 ≡ at + (p.run + 64 * p.run' + 4096 * (p.size + p.size')) / 4096 = omega (arith, p.few-black, p.few-white) in
          let b : p.run ≡ (p.run + 64 * p.run' + 4096 * (p.size + p.size')) % 64 = omega (arith, p.few-black) in
          let high : (p.run + 64 * p.run' + 4096 * (p.size + p.size')) / 64 ≡ p.run' + 64 * (p.size + p.size') = omega (arith, p.few-black) in
          let low : p.run' ≡ (p.run' + 64 * (p.size + p.size')) % 64 = omega (arith, p.few-white) in
          let alone : (p.run' + 4096 * p.size') % 4096 ≡ p.run' = omega (arith, p.few-white) in
          let w : (p.run' + 4096 * p.size') % 4096 ≡ (p.run + 64 * p.run' + 4096 * (p.size + p.size')) / 64 % 64 = alone ∙ low ∙ ap (λ (n : ℕ). n % 64) (sym high) in
          record {
            middle = at + p.size;
            first = first.same ∙ (λ i. ok (sum (at + size_is i) ((run_is ∙ b) i)));
            second = second.same ∙ (λ i. ok (sum (end i) (w i)));
          }

    pub entry_runs : (top : ℕ) → top ≡ peek 13 (drop at (bits_of bytes)) → (get_or both (top / 4) 0 ≡ 0 → ⊥) → PairRun bytes at (entry_pair (get_or both (top / 4) 0))
    entry_runs top k some =
        let small : top < 8192 = omega (arith, k, peek-lt 13 (drop at bs)) in
        let ws : bits_for 11 (top / 4) ≡ window 11 (drop at bs) = ap (λ (n : ℕ). bits_for 11 (n / 4)) k ∙ ap (bits_for 11) (peek-high 11 2 (drop at bs)) ∙ bits-peek 11 (drop at bs) in
        let e : get_or both (top / 4) 0 ≡ pair_in (window 11 (drop at bs)) = entry_in top small ∙ ap pair_in ws in
        let p = pair-entry (window 11 (drop at bs)) (λ z. some (e ∙ z)) in
        rw (e ∙ p.number) (pair_runs p)
