-- What several runs wrote, one behind the other, adds up. Assumes nothing.
use mathlib.Core.Path.{◌≡◌, refl, sym, ap, ap₂, ◌∙◌, subst}
use mathlib.Core.Bool.{Bool, true, false}
use mathlib.Core.List.{List, [], ◌∷◌, ◌++◌, map, append_assoc}
use Prim.Native.Nat.{ℕ, suc, ◌+◌, ◌-◌, ◌≤◌, ◌<◌}
use native.Mathlib.Omega.{arith}
use lib.Dec.{ltb, eqb}
use lib.IntN.{ℤ}
use lib.ListN.{length, get_or, drop, length-append, length-drop, length-map, get_or-append}
use lib.Seq.{get_or-drop, drop-drop, drop-append-add, get_or-append-add}
use borrow.Author.Tests.{lt-ltb, le-ltb, ltb-true, ltb-false, eq-eqb}
use Rattle.listing_text.specs.Text.{newline, tab}
use Rattle.listing_text.specs.Lines.{pieces, lines_of}
use Rattle.listing_text.proofs.Piecing.{pieces-some}
use Rattle.form_file.specs.First.{first_of}
use Rattle.form_file.specs.Words.{same, none}
use Rattle.form_file.proofs.Firsts.{first-high, first_passes}
use Rattle.form_file.proofs.Wording.{same-equal}
use Rattle.ledger.specs.Balance.{opened, heads_of, looked_of}
use Rattle.ledger.specs.Books.{is_counted, booked, has_room, booked_all}
use Rattle.ledger.specs.Lines.{Paged, bare_line, ledger_text}
use Rattle.ledger.specs.Said.{shown, no_verdict, numbers, total_at, page_line, total_line}
use Rattle.ledger.proofs.Balance.{sums, books-balance}
use Rattle.ledger.proofs.Lacking.{piece_then}
use Rattle.ledger.proofs.Quiet.{bare-quiet, bare-line, phrase-quiet}
use Rattle.ledger.specs.declared.Ledger.{Ledger}
use Rattle.ledger.specs.declared.Verdict.{Verdict}
use Rattle.ledger_file.specs.Fields.{field, number_in}
use Rattle.ledger_file.specs.Page.{page_line_of}
use Rattle.ledger_file.specs.Parts.{Part, verdicts_of, names_of, part_text, parts_text, pages_of, AllDifferent, Held, Summable}
use Rattle.ledger_file.specs.Resume.{verdict_of, verdict_in}
use Rattle.ledger_file.specs.Sums.{Sum, Went, on, wrong, name_at, namesake, page_taken, total_taken, Added, adding, ended, added_up}
use Rattle.ledger_file.specs.Total.{is_total_words, total_pages}
use Rattle.ledger_file.specs.declared.PageLine.{PageLine}
use Rattle.ledger_file.proofs.Adding.{after, adding-more}
use Rattle.ledger_file.proofs.Fitting.{looked-few, booked-append, Holds, holds-first, holds-front, holds-behind}
use Rattle.ledger_file.proofs.Rereading.{fielded, heads_read, reread}
use Rattle.ledger_file.proofs.Resuming.{booked-read}
use Rattle.ledger_file.proofs.Tabless.{shown-tabless}
use Rattle.ledger_file.proofs.Tallies.{takes-total, takes-page}
use Rattle.ledger_file.proofs.TotalLines.{total_bare, totalled}
use Rattle.ledger_file.proofs.Totalling.{total-wordless}

-- ---- Lists

map-append : {A B : Type 0} (f : A → B) (xs ys : List A) → map f (xs ++ ys) ≡ map f xs ++ map f ys
map-append {A} {B} f [] ys = refl
map-append {A} {B} f (x ∷ xs) ys = ap (λ (l : List B). f x ∷ l) (map-append f xs ys)

held-front : (ps qs : List Paged) → Held (verdicts_of (ps ++ qs)) → Held (verdicts_of ps)
held-front ps qs h k l =
    let app = map-append (λ (q : Paged). q.verdict) ps qs in
    let z : get_or (verdicts_of (ps ++ qs)) k no_verdict ≡ get_or (verdicts_of ps) k no_verdict =
    ap (λ (vs : List Verdict). get_or vs k no_verdict) app ∙ get_or-append (verdicts_of ps) (verdicts_of qs) no_verdict k l in
    let w : (get_or (verdicts_of (ps ++ qs)) k no_verdict).number ≡ (get_or (verdicts_of ps) k no_verdict).number = ap (λ (v : Verdict). v.number) z in
    omega (arith, w, h k (omega (arith, l, ap length app, length-append (verdicts_of ps) (verdicts_of qs))))

held-behind : (ps qs : List Paged) → Held (verdicts_of (ps ++ qs)) → Held (verdicts_of qs)
held-behind ps qs h k l =
    let app = map-append (λ (q : Paged). q.verdict) ps qs in
    let j = length (verdicts_of ps) + k in
    let z : get_or (verdicts_of (ps ++ qs)) (length (verdicts_of ps) + k) no_verdict ≡ get_or (verdicts_of qs) k no_verdict =
    ap (λ (vs : List Verdict). get_or vs (length (verdicts_of ps) + k) no_verdict) app ∙ get_or-append-add (verdicts_of ps) (verdicts_of qs) k no_verdict in
    let w : (get_or (verdicts_of (ps ++ qs)) (length (verdicts_of ps) + k) no_verdict).number ≡ (get_or (verdicts_of qs) k no_verdict).number = ap (λ (v : Verdict). v.number) z in
    omega (arith, w, h j (omega (arith, l, ap length app, length-append (verdicts_of ps) (verdicts_of qs))))

-- ---- One line of a text

-- none of so many positions passes
first-none : (test : ℕ → Bool) (n : ℕ) → ((k : ℕ) → k < n → test k ≡ false) → first_of test n 0 ≡ n
first-none test n h = by (ltb (first_of test n 0) n) refl
  where
    by : (t : Bool) → ltb (first_of test n 0) n ≡ t → first_of test n 0 ≡ n
    by true e =
        let l = ltb-true (first_of test n 0) n e in
        absurd (let z : ◌≡◌ {A = ℕ} 0 1 = clash (sym (first_passes test n 0 (omega (arith, l))) ∙ h (first_of test n 0) l) in omega arith)
      where
        clash : true ≡ false → ◌≡◌ {A = ℕ} 0 1
        clash q = cc
    by false e = omega (arith, first-high test n 0, ltb-false (first_of test n 0) n e)

-- behind a line and its line feed
line-behind : (text : List ℕ) (at : ℕ) (line rest : List ℕ) → drop at text ≡ line ++ newline ∷ rest → drop (at + length line + 1) text ≡ rest
line-behind text at line rest e =
    (let z : at + length line + 1 ≡ at + (length line + 1) = omega arith in ap (λ (n : ℕ). drop n text) z)
    ∙ sym (drop-drop (length line + 1) at text)
    ∙ ap (drop (length line + 1)) e
    ∙ drop-append-add line (newline ∷ rest) 1

-- nothing is wrong, and the books are those behind a list of pages
pub record Whole (a : Added) (b : Ledger) (vs : List Verdict) : Type 0 where
  pub number : a.number ≡ 0
  pub books : a.sum.books ≡ booked_all b vs

module _ (text : List ℕ) (room : ℕ) (all : List (List ℕ)) (different : AllDifferent all) where
  -- the lines of the pages so far have the first of all names
  record Known (s : Sum) : Type 0 where
    named : (k : ℕ) → k < length s.starts → name_at text (get_or s.starts k 0) ≡ get_or all k []

  -- a page's line
  module _ (at : ℕ) (s : Sum) (known : Known s) (name : List ℕ) (v : Verdict) (b : Ledger) (rest : List ℕ) (e : drop at text ≡ bare_line name v b ++ newline ∷ rest)
      (inside : length s.starts < length all) (is : get_or all (length s.starts) [] ≡ shown name) where
    abbrev line : List ℕ
    line = bare_line name v b

    abbrev count : ℕ
    count = length s.starts

    name-is : name_at text at ≡ shown name
    name-is =
        let f = fielded v b name in
        ap (field 0) e
        ∙ ap (λ (l : List ℕ). field 0 (l ++ newline ∷ rest)) f.is
        ∙ ap (field 0) (append_assoc (shown name) (tab ∷ f.others) (newline ∷ rest))
        ∙ ap (λ (fs : List (List ℕ)). get_or fs 0 []) (piece_then tab (shown name) (f.others ++ newline ∷ rest) (shown-tabless name))

    alone : namesake text at s.starts ≡ length s.starts
    alone = first-none (λ k. same (name_at text (get_or s.starts k 0)) (name_at text at)) (length s.starts) each
      where
        each : (k : ℕ) → k < length s.starts → same (name_at text (get_or s.starts k 0)) (name_at text at) ≡ false
        each k l = by (same (name_at text (get_or s.starts k 0)) (name_at text at)) refl
          where
            by : (t : Bool) → same (name_at text (get_or s.starts k 0)) (name_at text at) ≡ t → t ≡ false
            by false q = refl
            by true q =
                absurd (different k (length s.starts) l inside (sym (known.named k l) ∙ same-equal (name_at text (get_or s.starts k 0)) (name_at text at) q ∙ name-is ∙ sym is))

    abbrev next : Sum
    next = record { books = booked s.books v; closed = s.closed; starts = s.starts ++ at ∷ [] }

    abbrev tests : Bool → ℕ → Bool → Bool → Ledger → Went
    tests r other twice roomy books =
        elim r [
          | false ↦ wrong 5 0
          | true ↦
              elim twice [
                | true ↦ wrong 4 other
                | false ↦ elim roomy [ false ↦ wrong 6 0 | true ↦ on (record { books = books; closed = s.closed; starts = s.starts ++ at ∷ [] }) ]
              ]
        ]

    took : length s.starts < room → has_room s.books (verdict_of v.number (heads_read v)) ≡ true → page_taken text room at (verdict_of v.number (heads_read v)) s ≡ on next
    unfolding page_taken
    took l h =
        let n = namesake text at s.starts in
        let w = verdict_of v.number (heads_read v) in
        ap₂ (λ (r twice : Bool). tests r (get_or s.starts n 0) twice (has_room s.books w) (booked s.books w)) (lt-ltb (length s.starts) room l) (le-ltb n (length s.starts) (omega (arith, alone)))
        ∙ ap₂ (λ (r : Bool) (x : Ledger). tests true (get_or s.starts n 0) false r x) h (booked-read v s.books)

    known_next : Known next
    known_next = record { named = each }
      where
        each : (k : ℕ) → k < length (s.starts ++ at ∷ []) → name_at text (get_or (s.starts ++ at ∷ []) k 0) ≡ get_or all k []
        each k l = by (ltb k (length s.starts)) refl
          where
            by : (t : Bool) → ltb k (length s.starts) ≡ t → name_at text (get_or (s.starts ++ at ∷ []) k 0) ≡ get_or all k []
            by true q =
                let m = ltb-true k (length s.starts) q in
                ap (name_at text) (get_or-append s.starts (at ∷ []) 0 k m) ∙ known.named k m
            by false q =
                let z : k ≡ length s.starts + 0 = omega (arith, length-append s.starts (at ∷ []), ltb-false k (length s.starts) q) in
                ap (λ (j : ℕ). name_at text (get_or (s.starts ++ at ∷ []) j 0)) z
                ∙ ap (name_at text) (get_or-append-add s.starts (at ∷ []) 0 0)
                ∙ name-is
                ∙ sym is
                ∙ (let y : length s.starts ≡ k = omega (arith, z) in ap (λ (j : ℕ). get_or all j []) y)

    page-step : length s.starts < room → v.number < none → (is_counted v ≡ true → v.heads < none) → has_room s.books (verdict_of v.number (heads_read v)) ≡ true
        → adding text room at s (lines_of (drop at text)) ≡ adding text room (at + length (bare_line name v b) + 1) next (lines_of rest)
    page-step l hn hh h =
        let p = reread name v b hn hh in
        let f = fielded v b name in
        let w : (page_line_of line).good ≡ true = ap (λ (q : PageLine). q.good) p in
        let no : field 4 line ≡ f.words_are = ap (λ (fs : List (List ℕ)). get_or fs 4 []) f.fields in
        ap (adding text room at s) (ap lines_of e ∙ piece_then newline line rest (bare-quiet name v b))
        ∙ adding-more text room at s line (lines_of rest) (pieces-some newline rest)
        ∙ ap (after text room at s line (lines_of rest)) (takes-page text room at line s (total-wordless line (ap is_total_words no ∙ f.not-total)) refl w refl ∙ ap (λ (x : PageLine). page_taken text room at (verdict_in x) s) p ∙ took l h)

  -- a total's line
  module _ (at : ℕ) (s : Sum) (b : Ledger) (rest : List ℕ) (e : drop at text ≡ total_bare b ++ newline ∷ rest) where
    abbrev closed-now : Sum
    closed-now = record { books = s.books; closed = s.books; starts = s.starts }

    module _ (el : b.looked ≡ s.books.looked - s.closed.looked) (eh : b.heads ≡ s.books.heads - s.closed.heads) (ep : b.pages ≡ s.books.pages - s.closed.pages) (hl : b.looked < none) (hh : b.heads < none) (hp : b.pages < none) where
      total-took : total_taken (total_bare b) s ≡ on closed-now
      unfolding total_taken
      total-took =
          rw (total_taken, eq-eqb (number_in (field 1 (total_bare b))) (s.books.looked - s.closed.looked) ((totalled b hl hh hp).looked-is ∙ el), eq-eqb (number_in (field 2 (total_bare b))) (s.books.heads - s.closed.heads) ((totalled b hl hh hp).heads-is ∙ eh), eq-eqb (total_pages (total_bare b)) (s.books.pages - s.closed.pages) ((totalled b hl hh hp).pages-is ∙ ep))

      total-step : adding text room at s (lines_of (drop at text)) ≡ adding text room (at + length (total_bare b) + 1) closed-now (lines_of rest)
      total-step =
          ap (adding text room at s) (ap lines_of e ∙ piece_then newline (total_bare b) rest (phrase-quiet (numbers no_verdict b) (total_at b)))
          ∙ adding-more text room at s (total_bare b) (lines_of rest) (pieces-some newline rest)
          ∙ ap (after text room at s (total_bare b) (lines_of rest)) (takes-total text room at (total_bare b) s (totalled b hl hh hp).is-total ∙ total-took)

  -- ---- The pages of a part

  record Walked (at : ℕ) (s : Sum) (qs : List Paged) (rest : List ℕ) (more : List (List ℕ)) : Type 0 where
    at' : ℕ
    s' : Sum
    is : adding text room at s (lines_of (drop at text)) ≡ adding text room at' s' (lines_of rest)
    dropped : drop at' text ≡ rest
    known : Known s'
    books : s'.books ≡ booked_all s.books (verdicts_of qs)
    closed : s'.closed ≡ s.closed
    names : drop (length s'.starts) all ≡ more
    many : length s'.starts ≡ length s.starts + length qs

  walked : (qs : List Paged) (b : Ledger) (at : ℕ) (s : Sum) (rest : List ℕ) (more : List (List ℕ)) → drop at text ≡ ledger_text b qs ++ rest → Known s
      → drop (length s.starts) all ≡ names_of qs ++ more → length s.starts + length qs ≤ room → Held (verdicts_of qs) → Holds s.books (verdicts_of qs) → Walked at s qs rest more
  unfolding ledger_text booked_all
  walked [] b at s rest more e k n l h f = record {
    at' = at;
    s' = s;
    is = ap (λ (xs : List ℕ). adding text room at s (lines_of xs)) e;
    dropped = e;
    known = k;
    books = refl;
    closed = refl;
    names = n;
    many = omega arith;
  }
  walked (q ∷ qs) b at s rest more e k n l h f =
      let v = q.verdict in
      let b' = booked b v in
      let line = bare_line q.name v b' in
      let behind = ledger_text b' qs ++ rest in
      let e' : drop at text ≡ line ++ newline ∷ behind =
      e
      ∙ append_assoc (page_line q.name v b') (ledger_text b' qs) rest
      ∙ ap (λ (xs : List ℕ). xs ++ behind) (bare-line q.name v b')
      ∙ append_assoc line (newline ∷ []) behind in
      let size : length (drop (length s.starts) all) ≡ suc (length (names_of qs ++ more)) = ap length n in
      let inside : length s.starts < length all = omega (arith, size, length-drop (length s.starts) all) in
      let here : get_or all (length s.starts) [] ≡ shown q.name =
      (let z : length s.starts ≡ length s.starts + 0 = omega arith in ap (λ (j : ℕ). get_or all j []) z)
      ∙ sym (get_or-drop (length s.starts) all 0 [])
      ∙ ap (λ (ls : List (List ℕ)). get_or ls 0 []) n in
      let one = holds-first s.books v (verdicts_of qs) f in
      let next : Sum = record { books = booked s.books v; closed = s.closed; starts = s.starts ++ at ∷ [] } in
      let longer : length (s.starts ++ at ∷ []) ≡ length s.starts + 1 = length-append s.starts (at ∷ []) in
      let names' : drop (length (s.starts ++ at ∷ [])) all ≡ names_of qs ++ more =
      ap (λ (j : ℕ). drop j all) longer ∙ sym (drop-drop 1 (length s.starts) all) ∙ ap (drop 1) n in
      let w =
      walked qs b' (at + length line + 1) next rest more (line-behind text at line behind e') (known_next at s k q.name v b' behind e' inside here) names' (omega (arith, longer)) (λ j m. h (suc j) (omega arith))
      one.then in record {
        at' = w.at';
        s' = w.s';
        is =
            page-step at s k q.name v b' behind e' inside here (omega (arith)) (omega (arith, h 0 (omega arith))) one.small one.room
            ∙ ap (λ (xs : List ℕ). adding text room (at + length line + 1) next (lines_of xs)) (sym (line-behind text at line behind e'))
            ∙ w.is;
        dropped = w.dropped;
        known = w.known;
        books = w.books;
        closed = w.closed;
        names = w.names;
        many = omega (arith, w.many, longer);
      }

  -- ---- All parts

  whole : (ps : List Part) (at : ℕ) (s : Sum) → s.closed ≡ s.books → drop at text ≡ parts_text ps → Known s → drop (length s.starts) all ≡ names_of (pages_of ps)
      → length s.starts + length (pages_of ps) ≤ room → Held (verdicts_of (pages_of ps)) → Holds s.books (verdicts_of (pages_of ps))
      → Whole (adding text room at s (lines_of (drop at text))) s.books (verdicts_of (pages_of ps))
  unfolding parts_text pages_of part_text total_line pieces adding booked_all
  whole [] at s c e k n l h f =
      let z : adding text room at s (lines_of (drop at text)) ≡ ended at [] s = ap (λ (xs : List ℕ). adding text room at s (lines_of xs)) e in record {
        number = ap (λ (a : Added). a.number) z ∙ ap (λ (x : Ledger). elim (eqb s.books.pages x.pages) [ true ↦ 0 | false ↦ 3 ]) c ∙ rw (eq-eqb s.books.pages s.books.pages refl);
        books = ap (λ (a : Added). a.sum.books) z;
      }
  whole (p ∷ ps) at s c e k n l h f =
      let qs = p.pages in
      let vs = verdicts_of p.pages in
      let ws = verdicts_of (pages_of ps) in
      let b = booked_all (opened p.quota) (verdicts_of p.pages) in
      let rest = total_line b ++ parts_text ps in
      let app : verdicts_of (p.pages ++ pages_of ps) ≡ vs ++ ws = map-append (λ (q : Paged). q.verdict) p.pages (pages_of ps) in
      let long : length (p.pages ++ pages_of ps) ≡ length p.pages + length (pages_of ps) = length-append p.pages (pages_of ps) in
      let f' : Holds s.books (vs ++ ws) = subst (Holds s.books) app f in
      let e₁ : drop at text ≡ ledger_text (opened p.quota) p.pages ++ rest = e ∙ append_assoc (ledger_text (opened p.quota) p.pages) (total_line b) (parts_text ps) in
      let n₁ : drop (length s.starts) all ≡ names_of p.pages ++ names_of (pages_of ps) = n ∙ map-append (λ (q : Paged). shown q.name) p.pages (pages_of ps) in
      let w =
      walked p.pages (opened p.quota) at s rest (names_of (pages_of ps)) e₁ k n₁ (omega (arith, long)) (held-front p.pages (pages_of ps) h) (holds-front s.books vs ws f') in
      let t = w.s' in
      let m = books-balance p.quota vs in
      let q = sums s.books vs in
      let hb = holds-front s.books vs ws f' in
      let looked-t : t.books.looked ≡ s.books.looked + looked_of vs = ap (λ (x : Ledger). x.looked) w.books ∙ q.looked in
      let heads-t : t.books.heads ≡ s.books.heads + heads_of vs = ap (λ (x : Ledger). x.heads) w.books ∙ q.heads in
      let pages-t : t.books.pages ≡ s.books.pages + length vs = ap (λ (x : Ledger). x.pages) w.books ∙ q.pages in
      let looked-c : t.closed.looked ≡ s.books.looked = ap (λ (x : Ledger). x.looked) (w.closed ∙ c) in
      let heads-c : t.closed.heads ≡ s.books.heads = ap (λ (x : Ledger). x.heads) (w.closed ∙ c) in
      let pages-c : t.closed.pages ≡ s.books.pages = ap (λ (x : Ledger). x.pages) (w.closed ∙ c) in
      let e₂ : drop w.at' text ≡ total_bare b ++ newline ∷ parts_text ps = w.dropped ∙ append_assoc (total_bare b) (newline ∷ []) (parts_text ps) in
      let el : b.looked ≡ t.books.looked - t.closed.looked = omega (arith, m.looked, looked-t, looked-c) in
      let eh : b.heads ≡ t.books.heads - t.closed.heads = omega (arith, m.heads, heads-t, heads-c) in
      let ep : b.pages ≡ t.books.pages - t.closed.pages = omega (arith, m.pages, pages-t, pages-c) in
      let hl : b.looked < none = omega (arith, m.looked, looked-few vs, hb.pages) in
      let hh : b.heads < none = omega (arith, m.heads, hb.heads) in
      let hp : b.pages < none = omega (arith, m.pages, hb.pages) in
      let at₂ = w.at' + length (total_bare b) + 1 in
      let s₂ : Sum = record { books = t.books; closed = t.books; starts = t.starts } in
      let d₂ = line-behind text w.at' (total_bare b) (parts_text ps) e₂ in
      let r =
      whole ps at₂ s₂ refl d₂ (record { named = w.known.named }) w.names (omega (arith, w.many, long)) (held-behind p.pages (pages_of ps) h)
      (subst (λ (x : Ledger). Holds x ws) (sym w.books) (holds-behind s.books vs ws f')) in
      let steps : adding text room at s (lines_of (drop at text)) ≡ adding text room at₂ s₂ (lines_of (drop at₂ text)) =
      w.is
      ∙ ap (λ (xs : List ℕ). adding text room w.at' t (lines_of xs)) (sym w.dropped)
      ∙ total-step w.at' t b (parts_text ps) e₂ el eh ep hl hh hp
      ∙ ap (λ (xs : List ℕ). adding text room at₂ s₂ (lines_of xs)) (sym d₂) in record {
        number = ap (λ (a : Added). a.number) steps ∙ r.number;
        books =
            ap (λ (a : Added). a.sum.books) steps
            ∙ r.books
            ∙ ap (λ (x : Ledger). booked_all x ws) w.books
            ∙ sym (booked-append s.books vs ws)
            ∙ ap (booked_all s.books) (sym app);
      }

-- ---- From the start

pub parts-add-up : (quota : ℤ) (ps : List Part) (room : ℕ) → Summable room (pages_of ps) → Whole (added_up (parts_text ps) quota room) (opened quota) (verdicts_of (pages_of ps))
parts-add-up quota ps room sum =
    whole (parts_text ps) room (names_of (pages_of ps)) sum.different ps 0 (record { books = opened quota; closed = opened quota; starts = [] }) refl refl
    (record { named = λ k l. absurd (omega arith) }) refl (omega (arith, sum.room_for)) sum.held
    (record { pages = omega (arith, sum.pages, length-map (pages_of ps) (λ (p : Paged). p.verdict)); heads = omega (arith, sum.heads); looked = omega arith })
