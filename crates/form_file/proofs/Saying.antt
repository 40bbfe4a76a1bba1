-- Laws of what a line says, by its first word and the numbers behind it. Assumes nothing.
use mathlib.Core.Path.{◌≡◌, sym, ap, ap₂, ◌∙◌}
use mathlib.Core.Bool.{true, false}
use mathlib.Core.List.{List, ◌∷◌}
use Prim.Native.Nat.{ℕ, ◌+◌, ◌-◌, ◌*◌, ◌≤◌, ◌<◌}
use native.Mathlib.Omega.{arith}
use lib.Dec.{eqb}
use lib.ListN.{length, get_or, take, drop}
use borrow.Author.Tests.{eq-eqb, ne_eqb, lt-ltb, le-ltb}
use Rattle.heads.specs.Form.{all}
use Rattle.heads.specs.Numbers.{box_in}
use Rattle.listing_text.specs.Text.{ascii}
use Rattle.form_file.specs.Words.{is_blank, same, values_of}
use Rattle.form_file.specs.Said.{box_said, page_said, one_said, place_said, proper_said, shift_said, white_kind, black_kind, by_word, line_says}
use Rattle.form_file.specs.Steps.{ahead, is_letter, words_in, is_held, Numbers, Valued}
use Rattle.form_file.proofs.Ahead.{past-in, past-stops}
use Rattle.form_file.proofs.Wording.{words-skip, words-done, words-next, word_some}
use Rattle.form_file.specs.declared.said.Said.{Said}
use Rattle.form_file.specs.declared.said.Said.TheVariants.{Nothing as nothing, Square as box, Page as page, Tick as tick, Doubt as doubt, Place as place, Proper as proper, Shift as shift, Wrong as wrong}
use Rattle.form_file.specs.declared.said.Values.{Values}

-- ---- By the numbers

module _ (v : Values) (ns : List ℕ) (h : Numbers v ns) where
  many : (k : ℕ) → v.count ≡ k → eqb (length ns) k ≡ true
  many k e = eq-eqb (length ns) k (sym h.count ∙ e)

  other : (k : ℕ) → (v.count ≡ k → ⊥) → eqb (length ns) k ≡ false
  other k n = ne_eqb (length ns) k (λ e. n (h.count ∙ e))

  pub one-wrong : (said : ℕ → Said) → (v.count ≡ 1 → ⊥) → wrong ≡ one_said said ns
  one-wrong said n = rw (one_said, other 1 n)

  pub one-said : (said : ℕ → Said) → v.count ≡ 1 → said (get_or v.n 0 0) ≡ one_said said ns
  one-said said e = rw (one_said, many 1 e) (ap said (h.first 0 (omega arith)))

  pub page-two : v.count ≡ 2 → page (get_or v.n 0 0) (get_or v.n 1 0) (get_or v.n 1 0) ≡ page_said ns
  page-two e = rw (page_said, many 2 e) (cc (h.first 0 (omega arith), h.first 1 (omega arith)))

  pub page-three : v.count ≡ 3 → page (get_or v.n 0 0) (get_or v.n 1 0) (get_or v.n 2 0) ≡ page_said ns
  page-three e = rw (page_said, other 2 (λ z. omega arith), many 3 e) (cc (h.first 0 (omega arith), h.first 1 (omega arith), h.first 2 (omega arith)))

  pub page-wrong : (v.count ≡ 2 → ⊥) → (v.count ≡ 3 → ⊥) → wrong ≡ page_said ns
  page-wrong n m = rw (page_said, other 2 n, other 3 m)

  pub place-wrong : (kind : ℕ) → (v.count ≡ 5 → ⊥) → wrong ≡ place_said kind ns
  place-wrong kind n = rw (place_said, other 5 n)

  pub place-said : (kind : ℕ) → v.count ≡ 5 → place kind (box_in v.n 0) (get_or v.n 4 0) ≡ place_said kind ns
  place-said kind e =
      rw (place_said, many 5 e)
      (cc (h.first 0 (omega arith), h.first 1 (omega arith), h.first 2 (omega arith), h.first 3 (omega arith), h.first 4 (omega arith)))

  pub proper-wrong : (v.count ≡ 0 → ⊥) → wrong ≡ proper_said ns
  proper-wrong n = rw (proper_said, other 0 n)

  pub proper-said : v.count ≡ 0 → proper ≡ proper_said ns
  proper-said e = rw (proper_said, many 0 e)

  pub shift-wrong : (v.count ≡ 2 → ⊥) → wrong ≡ shift_said ns
  shift-wrong n = rw (shift_said, other 2 n)

  pub shift-said : v.count ≡ 2 → shift (get_or v.n 0 0) (get_or v.n 1 0) ≡ shift_said ns
  shift-said e = rw (shift_said, many 2 e) (cc (h.first 0 (omega arith), h.first 1 (omega arith)))

  pub box-wrong : (column : ℕ) → (v.count ≡ 5 → ⊥) → wrong ≡ box_said column ns
  box-wrong column n = rw (box_said, other 5 n)

  pub box-ten : (column : ℕ) → v.count ≡ 5 → 9 < get_or v.n 0 0 → wrong ≡ box_said column ns
  box-ten column e l = rw (box_said, many 5 e, le-ltb (get_or ns 0 0) 10 (omega (arith, h.first 0 (omega arith))))

  pub box-said : (column : ℕ) → v.count ≡ 5 → get_or v.n 0 0 ≤ 9 → box (2 * get_or v.n 0 0 + column) (box_in v.n 1) ≡ box_said column ns
  box-said column e l =
      rw (box_said, many 5 e, lt-ltb (get_or ns 0 0) 10 (omega (arith, h.first 0 (omega arith))))
      (cc (h.first 0 (omega arith), h.first 1 (omega arith), h.first 2 (omega arith), h.first 3 (omega arith), h.first 4 (omega arith)))

-- ---- By the word

-- the word is none of the first so many
abbrev pub Not1 : List ℕ → Type 0
Not1 word = same word (ascii "tens") ≡ false

abbrev pub Not2 : List ℕ → Type 0
Not2 word = Not1 word × (same word (ascii "units") ≡ false)

abbrev pub Not3 : List ℕ → Type 0
Not3 word = Not2 word × (same word (ascii "page") ≡ false)

abbrev pub Not4 : List ℕ → Type 0
Not4 word = Not3 word × (same word (ascii "tick") ≡ false)

abbrev pub Not5 : List ℕ → Type 0
Not5 word = Not4 word × (same word (ascii "doubt") ≡ false)

abbrev pub Not6 : List ℕ → Type 0
Not6 word = Not5 word × (same word (ascii "black") ≡ false)

abbrev pub Not7 : List ℕ → Type 0
Not7 word = Not6 word × (same word (ascii "white") ≡ false)

abbrev pub Not8 : List ℕ → Type 0
Not8 word = Not7 word × (same word (ascii "proper") ≡ false)

abbrev pub Not9 : List ℕ → Type 0
Not9 word = Not8 word × (same word (ascii "shift") ≡ false)

module _ (word ns : List ℕ) (r : Said) where
  pub by-tens : same word (ascii "tens") ≡ true → r ≡ box_said 0 ns → r ≡ by_word word ns
  unfolding by_word
  by-tens e h = rw (by_word, e) h

  pub by_units : Not1 word → same word (ascii "units") ≡ true → r ≡ box_said 1 ns → r ≡ by_word word ns
  unfolding by_word
  by_units n e h = rw (by_word, n, e) h

  pub by-page : Not2 word → same word (ascii "page") ≡ true → r ≡ page_said ns → r ≡ by_word word ns
  unfolding by_word
  by-page n e h = rw (by_word, n.0, n.1, e) h

  pub by-tick : Not3 word → same word (ascii "tick") ≡ true → r ≡ one_said tick ns → r ≡ by_word word ns
  unfolding by_word
  by-tick n e h = rw (by_word, n.0.0, n.0.1, n.1, e) h

  pub by-doubt : Not4 word → same word (ascii "doubt") ≡ true → r ≡ one_said doubt ns → r ≡ by_word word ns
  unfolding by_word
  by-doubt n e h = rw (by_word, n.0.0.0, n.0.0.1, n.0.1, n.1, e) h

  pub by-black : Not5 word → same word (ascii "black") ≡ true → r ≡ place_said black_kind ns → r ≡ by_word word ns
  unfolding by_word
  by-black n e h = rw (by_word, n.0.0.0.0, n.0.0.0.1, n.0.0.1, n.0.1, n.1, e) h

  pub by-white : Not6 word → same word (ascii "white") ≡ true → r ≡ place_said white_kind ns → r ≡ by_word word ns
  unfolding by_word
  by-white n e h = rw (by_word, n.0.0.0.0.0, n.0.0.0.0.1, n.0.0.0.1, n.0.0.1, n.0.1, n.1, e) h

  pub by-proper : Not7 word → same word (ascii "proper") ≡ true → r ≡ proper_said ns → r ≡ by_word word ns
  unfolding by_word
  by-proper n e h = rw (by_word, n.0.0.0.0.0.0, n.0.0.0.0.0.1, n.0.0.0.0.1, n.0.0.0.1, n.0.0.1, n.0.1, n.1, e) h

  pub by-shift : Not8 word → same word (ascii "shift") ≡ true → r ≡ shift_said ns → r ≡ by_word word ns
  unfolding by_word
  by-shift n e h =
      rw (by_word, n.0.0.0.0.0.0.0, n.0.0.0.0.0.0.1, n.0.0.0.0.0.1, n.0.0.0.0.1, n.0.0.0.1, n.0.0.1, n.0.1, n.1, e) h

  pub by-none : Not9 word → r ≡ wrong → r ≡ by_word word ns
  unfolding by_word
  by-none m h =
      let n = m.0 in
      rw (by_word, n.0.0.0.0.0.0.0, n.0.0.0.0.0.0.1, n.0.0.0.0.0.1, n.0.0.0.0.1, n.0.0.0.1, n.0.0.1, n.0.1, n.1, m.1) h

-- ---- A line

module _ (line : List ℕ) (at : ℕ) (p : at ≡ 0 + ahead is_blank (drop 0 line)) where
  from-word : words_in line ≡ words_in (drop at line)
  from-word = words-skip line 0 ∙ ap (λ (k : ℕ). words_in (drop k line)) (sym p)

  pub line-nothing : at ≡ length line → nothing ≡ line_says (words_in line)
  unfolding line_says
  line-nothing e = sym (ap line_says (from-word ∙ words-done line at (omega arith)))

  module _ (n : at ≡ length line → ⊥) (end : ℕ) (e : end ≡ at + ahead is_letter (drop at line)) where
    inside : at < length line
    inside = differ at (length line) (omega (arith, past-in is_blank line 0 (omega arith))) n
      where
        differ : (a b : ℕ) → a ≤ b → (a ≡ b → ⊥) → a < b
        differ a b l d = omega arith

    starts : is_blank (get_or line at 0) ≡ false
    starts = ap (λ (k : ℕ). is_blank (get_or line k 0)) p ∙ past-stops is_blank line 0 (omega (arith, inside))

    pub word-inside : (at < end) × (end ≤ length line)
    word-inside = (omega (arith, word_some line at inside starts), omega (arith, past-in is_letter line at (omega (arith, inside))))

    parted : words_in line ≡ take (end - at) (drop at line) ∷ words_in (drop end line)
    parted =
        from-word ∙ words-next line at inside starts
        ∙ ap₂ (λ (m k : ℕ). take m (drop at line) ∷ words_in (drop k line)) (let z : ahead is_letter (drop at line) ≡ end - at = omega arith in z) (sym e)

    module _ (v : Values) (h : Valued v (values_of (words_in (drop end line)))) where
      pub line-wrong : v.held ≡ false → wrong ≡ line_says (words_in line)
      unfolding line_says
      line-wrong f = sym (ap line_says parted ∙ rw (line_says, sym h.held ∙ f))

      pub line_word : v.held ≡ true → (r : Said) → ((ns : List ℕ) → Numbers v ns → r ≡ by_word (take (end - at) (drop at line)) ns) → r ≡ line_says (words_in line)
      unfolding line_says
      line_word f r g = g (values_of (words_in (drop end line))) (h.numbers held) ∙ sym (ap line_says parted ∙ rw (line_says, held))
        where
          held : all is_held (values_of (words_in (drop end line))) ≡ true
          held = sym h.held ∙ f
