-- Laws of the name in a line, and of the quota left. Assumes nothing.
use mathlib.Core.Path.{◌≡◌, refl, sym, ap, ap₂, ◌∙◌}
use mathlib.Core.Bool.{Bool, true, false}
use mathlib.Core.List.{List, [], ◌∷◌}
use Prim.Native.Nat.{ℕ, zero, suc, ◌+◌, ◌-◌, ◌≤◌, ◌<◌}
use native.Mathlib.Omega.{arith}
use lib.ListN.{length, get_or, take, drop, length-append}
use lib.Seq.{get_or-take, length-take-le, take-append_seam}
use Rattle.rules.specs.Pages.{overlaid}
use Rattle.listing_text.specs.Text.{decimal}
use Rattle.listing_text.specs.Writing.{Room, Puts}
use Rattle.listing_text.specs.Listed.{Prints}
use Rattle.listing_text.proofs.Lengths.{decimal-short}
use Rattle.listing_text.proofs.Written.{Owes, owes-all, owes-some, owes-last-room, owes-last, puts-as}
use Rattle.form_file.specs.Words.{same}
use Rattle.form_file.proofs.Wording.{same_length, Alike, alike-first, alike-differ, alike_next, alike_end}
use Rattle.ledger.specs.Books.{left, is_below, size}
use Rattle.ledger.specs.Said.{shown_byte, shown}
use Rattle.ledger.proofs.Whole.{length-shown, prints}
use Rattle.ledger.specs.declared.Ledger.{Ledger}
use Rattle.ledger_file.specs.Fields.{field, FieldTo}
use Rattle.ledger_file.specs.Resume.{left_text}

-- ---- The name

shown-at : (name : List ℕ) (i : ℕ) → i < length name → get_or (shown name) i 0 ≡ shown_byte (get_or name i 0)
unfolding shown
shown-at [] i l = absurd (omega arith)
shown-at (b ∷ bs) zero l = refl
shown-at (b ∷ bs) (suc i) l = shown-at bs i (omega arith)

module _ (line name : List ℕ) where
  -- a line's first field is as long as a name, and the name as far as a place
  pub record Naming (i : ℕ) : Type 0 where
    pub long : length name ≤ length line
    pub is : field 0 line ≡ take (length name) line
    pub alike : Alike (field 0 line) (shown name) i

  module _ {end : ℕ} (t : FieldTo line 0 end) where
    first-is : field 0 line ≡ take end line
    first-is = ap (λ (fs : List (List ℕ)). get_or fs 0 []) t.fields ∙ (let z : end - 0 ≡ end = omega arith in ap (λ (n : ℕ). take n line) z)

    first-long : length (field 0 line) ≡ end
    first-long = ap length first-is ∙ length-take-le end line t.inside

    pub naming-not : (end ≡ length name → ⊥) → false ≡ same (field 0 line) (shown name)
    naming-not n = same_length (field 0 line) (shown name) (λ e. n (sym first-long ∙ e ∙ length-shown name))

    pub naming-first : end ≡ length name → Naming 0
    naming-first e = record {
      long = omega (arith, t.inside);
      is = first-is ∙ ap (λ (n : ℕ). take n line) e;
      alike = alike-first (field 0 line) (shown name) (first-long ∙ e ∙ sym (length-shown name));
    }

  module _ {i : ℕ} (n : Naming i) where
    size_is : length (field 0 line) ≡ length name
    size_is = ap length n.is ∙ length-take-le (length name) line n.long

    byte-is : i < length name → get_or (field 0 line) i 0 ≡ get_or line i 0
    byte-is l = ap (λ (xs : List ℕ). get_or xs i 0) n.is ∙ rw get_or-take

    pub naming-differ : i < length name → {x : ℕ} → x ≡ shown_byte (get_or name i 0) → (get_or line i 0 ≡ x → ⊥) → false ≡ same (field 0 line) (shown name)
    naming-differ l {x} e d =
        alike-differ (field 0 line) (shown name) n.alike (omega (arith, size_is)) (λ z. d (sym (byte-is l) ∙ z ∙ shown-at name i l ∙ sym e))

    pub naming-next : i < length name → {x : ℕ} → x ≡ shown_byte (get_or name i 0) → get_or line i 0 ≡ x → Naming (i + 1)
    naming-next l {x} e d = record {
      long = n.long;
      is = n.is;
      alike = alike_next (field 0 line) (shown name) n.alike (omega (arith, size_is)) (byte-is l ∙ d ∙ e ∙ sym (shown-at name i l));
    }

    pub naming-end : length name ≤ i → true ≡ same (field 0 line) (shown name)
    naming-end l = alike_end (field 0 line) (shown name) n.alike (omega (arith, size_is))

-- ---- The quota left

module _ (out : List ℕ) (b : Ledger) (n : ℕ) (e : n ≡ size (left b)) (fits : n < 18446744073709551616) (long : 32 ≤ length out) where
  pub kept-room : Room out 0 (decimal n)
  kept-room = record { fits = omega (arith, decimal-short 19 n (omega arith)) }

  pub kept-said : {r : ℕ} {after : List ℕ} → is_below (left b) ≡ false → Puts out 0 (decimal n) r after → Prints out (left_text b) r after
  kept-said f p =
      prints (puts-as (ap decimal e ∙ sym (ap (λ (t : Bool). elim t [ true ↦ 45 ∷ decimal (size (left b)) | false ↦ decimal (size (left b)) ]) f)) p)

  starts : Owes 0 (45 ∷ decimal n) out 0 (45 ∷ decimal n) out
  starts = owes-all (record { fits = omega (arith, decimal-short 19 n (omega arith)) })

  module _ {p : ℕ} {out₁ : List ℕ} (dashed : Puts out 0 (45 ∷ []) p out₁) where
    then : Owes 0 (45 ∷ decimal n) out p (decimal n) out₁
    then = owes-some starts (45 ∷ []) (decimal n) refl dashed

    pub passed-room : Room out₁ p (decimal n)
    passed-room = owes-last-room then

    pub passed-said : {r : ℕ} {out₂ : List ℕ} → is_below (left b) ≡ true → Puts out₁ p (decimal n) r out₂ → Prints out (left_text b) r out₂
    passed-said f w =
        prints (puts-as (ap (λ (m : ℕ). 45 ∷ decimal m) e ∙ sym (ap (λ (t : Bool). elim t [ true ↦ 45 ∷ decimal (size (left b)) | false ↦ decimal (size (left b)) ]) f)) (owes-last then w))

-- what was printed stands at the front
pub printed-front : {before text after : List ℕ} {r : ℕ} → Prints before text r after → take (r - 0) after ≡ text
unfolding overlaid
printed-front {before} {text} {after} {r} p =
    (let z : r - 0 ≡ r = omega arith in ap (λ (n : ℕ). take n after) z)
    ∙ ap₂ (λ (n : ℕ) (a : List ℕ). take n a) p.count p.array
    ∙ take-append_seam text (drop (length text) before)

pub printed-in : {before text after : List ℕ} {r : ℕ} → Prints before text r after → r ≤ length after
unfolding overlaid
printed-in {before} {text} {after} {r} p = omega (arith, p.count, ap length p.array, length-append text (drop (length text) before))
