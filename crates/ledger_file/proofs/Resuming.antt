-- Laws of a run that goes on, test by test; and behind a line that a run wrote it does. Assumes nothing.
use mathlib.Core.Path.{◌≡◌, refl, sym, ap, ap₂, ◌∙◌}
use mathlib.Core.Bool.{Bool, true, false, ◌&&◌}
use mathlib.Core.List.{List, []}
use Prim.Native.Nat.{ℕ, suc, ◌+◌, ◌≤◌, ◌<◌}
use native.Mathlib.Omega.{arith}
use lib.Dec.{eqb}
use lib.ListN.{get_or}
use borrow.Author.Tests.{lt-ltb, le-leb}
use Rattle.form_file.specs.Words.{same, none}
use Rattle.form_file.proofs.Wording.{same_self}
use Rattle.ledger.specs.Books.{is_counted, booked, has_room, booked_in}
use Rattle.ledger.specs.Said.{shown}
use Rattle.ledger.specs.Lines.{bare_line}
use Rattle.ledger.proofs.Rooms.{fits}
use Rattle.ledger.specs.declared.Ledger.{Ledger}
use Rattle.ledger.specs.declared.Verdict.{Verdict}
use Rattle.ledger_file.specs.Fields.{field}
use Rattle.ledger_file.specs.Page.{page_line_of}
use Rattle.ledger_file.specs.Resume.{left_text, verdict_of, verdict_in, does_go_on, unresumed, resumed}
use Rattle.ledger_file.specs.declared.PageLine.{PageLine}
use Rattle.ledger_file.specs.declared.Resumed.{Resumed}
use Rattle.ledger_file.proofs.Rereading.{fielded, heads_read, reread}

module _ (line name : List ℕ) (b : Ledger) where
  abbrev read : Verdict
  read = verdict_in (page_line_of line)

  abbrev tests : Bool → Bool → Bool → Bool → Resumed
  tests g n r l = elim (g && (n && (r && l))) [ true ↦ record { good = true; ledger = booked b read } | false ↦ unresumed b ]

  tested : {g n r l : Bool} → (page_line_of line).good ≡ g → same (field 0 line) (shown name) ≡ n → has_room b read ≡ r → same (field 3 line) (left_text (booked b read)) ≡ l
      → resumed line name b ≡ tests g n r l
  unfolding resumed does_go_on
  tested {g} {n} {r} {l} eg en er el =
      ap₂ (λ (x y : Bool). tests x y (has_room b read) (same (field 3 line) (left_text (booked b read)))) eg en ∙ ap₂ (tests g n) er el

  module _ {p : PageLine} (e : p ≡ page_line_of line) where
    good-is : {t : Bool} → p.good ≡ t → (page_line_of line).good ≡ t
    good-is h = ap (λ (q : PageLine). q.good) (sym e) ∙ h

    pub not-page : p.good ≡ false → unresumed b ≡ resumed line name b
    not-page h = sym (tested (good-is h) refl refl refl)

    module _ (g : p.good ≡ true) {n : Bool} (en : n ≡ same (field 0 line) (shown name)) where
      pub not_named : n ≡ false → unresumed b ≡ resumed line name b
      not_named h = sym (tested (good-is g) (sym en ∙ h) refl refl)

      module _ (h : n ≡ true) {v : Verdict} (d : v ≡ verdict_of p.number p.heads) {r : Bool} (er : r ≡ has_room b v) where
        read_is : v ≡ read
        read_is = d ∙ ap verdict_in e

        room-is : {t : Bool} → r ≡ t → has_room b read ≡ t
        room-is f = sym (er ∙ ap (has_room b) read_is) ∙ f

        pub not-room : r ≡ false → unresumed b ≡ resumed line name b
        not-room f = sym (tested (good-is g) (sym en ∙ h) (room-is f) refl)

        module _ (f : r ≡ true) {after : Ledger} (a : after ≡ booked_in b v) {l : Bool} (el : l ≡ same (field 3 line) (left_text after)) where
          behind : after ≡ booked b read
          unfolding booked_in
          behind = a ∙ ap (booked_in b) read_is ∙ rw (booked_in, room-is f)

          left_is : {t : Bool} → l ≡ t → same (field 3 line) (left_text (booked b read)) ≡ t
          left_is k = sym (el ∙ ap (λ (x : Ledger). same (field 3 line) (left_text x)) behind) ∙ k

          pub not_left : l ≡ false → unresumed b ≡ resumed line name b
          not_left k = sym (tested (good-is g) (sym en ∙ h) (room-is f) (left_is k))

          pub goes_on : l ≡ true → ◌≡◌ {A = Resumed} (record { good = true; ledger = after }) (resumed line name b)
          goes_on k = ap (λ (x : Ledger). record { good = true; ledger = x }) behind ∙ sym (tested (good-is g) (sym en ∙ h) (room-is f) (left_is k))

-- ---- Behind a line that a run wrote

module _ (v : Verdict) (b : Ledger) where
  -- the books take no more of a verdict than its number and, where it is counted, its heads
  pub booked-read : booked b (verdict_of v.number (heads_read v)) ≡ booked b v
  unfolding booked
  booked-read = by (eqb v.number 0) (heads_read v) (λ e. ap (λ (t : Bool). elim t [ true ↦ v.heads | false ↦ 0 ]) e)
    where
      by : (t : Bool) (h : ℕ) → (t ≡ true → h ≡ v.heads)
          → ◌≡◌ {A = Ledger}
          (elim t [
            | true ↦ record { quota = b.quota; heads = b.heads + h; pages = suc b.pages; looked = b.looked }
            | false ↦ record { quota = b.quota; heads = b.heads; pages = suc b.pages; looked = suc b.looked }
          ])
          (elim t [
            | true ↦ record { quota = b.quota; heads = b.heads + v.heads; pages = suc b.pages; looked = b.looked }
            | false ↦ record { quota = b.quota; heads = b.heads; pages = suc b.pages; looked = suc b.looked }
          ])
      by true h e = ap (λ (n : ℕ). record { quota = b.quota; heads = b.heads + n; pages = suc b.pages; looked = b.looked }) (e refl)
      by false h e = refl

  heads-less : heads_read v ≤ v.heads
  heads-less = by (is_counted v)
    where
      by : (t : Bool) → elim t [ true ↦ v.heads | false ↦ 0 ] ≤ v.heads
      by true = omega arith
      by false = omega arith

  pub room-read : has_room b v ≡ true → has_room b (verdict_of v.number (heads_read v)) ≡ true
  unfolding has_room
  room-read r =
      let f = fits b v r in
      rw (lt-ltb b.pages 4294967295 f.pages, lt-ltb b.looked 4294967295 f.looked) (le-leb (b.heads + heads_read v) 4294967295 (omega (arith, f.heads, heads-less)))

  pub resumes : (name : List ℕ) → v.number < none → has_room b v ≡ true → resumed (bare_line name v (booked b v)) name b ≡ record { good = true; ledger = booked b v }
  resumes name hn r =
      let line = bare_line name v (booked b v) in
      let p = reread name v (booked b v) hn (λ e. omega (arith, (fits b v r).heads)) in
      let w : verdict_in (page_line_of line) ≡ verdict_of v.number (heads_read v) = ap verdict_in p in
      let fs = (fielded v (booked b v) name).fields in
      tested line name b (ap (λ (q : PageLine). q.good) p)
      (ap (λ (l : List (List ℕ)). same (get_or l 0 []) (shown name)) fs ∙ same_self (shown name))
      (ap (has_room b) w ∙ room-read r)
      (ap₂ (λ (l : List (List ℕ)) (x : Ledger). same (get_or l 3 []) (left_text x)) fs (ap (booked b) w ∙ booked-read) ∙ same_self (left_text (booked b v)))
      ∙ ap (λ (x : Ledger). record { good = true; ledger = x }) (ap (booked b) w ∙ booked-read)
