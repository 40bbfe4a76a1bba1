-- No line ends in what is said of a page, and so every page has its line. Assumes nothing.
use mathlib.Core.Path.{◌≡◌, refl, sym, ap, ◌∙◌}
use mathlib.Core.Bool.{Bool, true, false}
use mathlib.Core.List.{List, [], ◌∷◌, ◌++◌, map, append_assoc}
use Prim.Native.Nat.{ℕ, suc}
use native.Mathlib.Omega.{arith}
use lib.ListN.{length}
use Rattle.listing_text.specs.Text.{ascii, newline}
use Rattle.listing_text.specs.Lines.{pieces, lines_of}
use Rattle.ledger.specs.Books.{booked, is_counted}
use Rattle.ledger.specs.Phrases.{words, phrase, reason_at}
use Rattle.ledger.specs.Said.{fill, shown, numbers, filled_with, head_at, reason_with, page_line}
use Rattle.ledger.specs.Lines.{Paged, ledger_text, bare_line, bare_lines}
use Rattle.ledger.specs.declared.Ledger.{Ledger}
use Rattle.ledger.specs.declared.Verdict.{Verdict}
use Rattle.ledger.proofs.Lacking.{lacks, all-lack, lacks-append, piece_then, lacks-at, shown-lacks, fill-lacks}

abbrev pub quiet : List ℕ → Bool
quiet xs = lacks newline xs

words-quiet : all-lack newline (map ascii words) ≡ true
unfolding all-lack lacks words ascii
words-quiet = refl

pub phrase-quiet : (ns : List ℕ) (k : ℕ) → quiet (fill ns (phrase k)) ≡ true
phrase-quiet ns k = fill-lacks newline (omega arith) ns (phrase k) (lacks-at newline (map ascii words) words-quiet k)

reason-quiet : (v : Verdict) (ns : List ℕ) → quiet (reason_with v ns) ≡ true
unfolding lacks
reason-quiet v ns = by (is_counted v)
  where
    by : (t : Bool) → quiet (elim t [ true ↦ [] | false ↦ fill ns (phrase (reason_at v)) ]) ≡ true
    by true = refl
    by false = phrase-quiet ns (reason_at v)

-- ---- A page's line, and all of them

pub bare-quiet : (name : List ℕ) (v : Verdict) (b : Ledger) → quiet (bare_line name v b) ≡ true
unfolding bare_line
bare-quiet name v b =
    lacks-append newline (shown name) (filled_with v b (head_at v b) ++ reason_with v (numbers v b)) (shown-lacks newline (omega arith) name)
    (lacks-append newline (filled_with v b (head_at v b)) (reason_with v (numbers v b)) (phrase-quiet (numbers v b) (head_at v b)) (reason-quiet v (numbers v b)))

-- a line is what it says, and its line feed
pub bare-line : (name : List ℕ) (v : Verdict) (b : Ledger) → page_line name v b ≡ bare_line name v b ++ newline ∷ []
unfolding page_line bare_line
bare-line name v b =
    let h = filled_with v b (head_at v b) in
    let r = reason_with v (numbers v b) in
    ap (λ (l : List ℕ). shown name ++ l) (sym (append_assoc h r (newline ∷ []))) ∙ sym (append_assoc (shown name) (h ++ r) (newline ∷ []))

-- the lines of the text are those of the pages, each ended by its line feed, and nothing stands behind the last
pub lines_are : (b : Ledger) (ps : List Paged) → lines_of (ledger_text b ps) ≡ bare_lines b ps ++ [] ∷ []
unfolding ledger_text bare_lines pieces
lines_are b [] = refl
lines_are b (p ∷ ps) =
    let after = booked b p.verdict in
    let line = bare_line p.name p.verdict after in
    let rest = ledger_text after ps in
    ap (λ (l : List ℕ). lines_of (l ++ rest)) (bare-line p.name p.verdict after)
    ∙ ap lines_of (append_assoc line (newline ∷ []) rest)
    ∙ piece_then newline line rest (bare-quiet p.name p.verdict after)
    ∙ ap (λ (ls : List (List ℕ)). line ∷ ls) (lines_are after ps)

pub as-many-lines : (b : Ledger) (ps : List Paged) → length (bare_lines b ps) ≡ length ps
unfolding bare_lines
as-many-lines b [] = refl
as-many-lines b (p ∷ ps) = ap suc (as-many-lines (booked b p.verdict) ps)
