-- The answers 4 and 5 are as demanded: what the contracts say of a smaller and a larger room is what the rules' laws say of them. Assumes nothing.
use mathlib.Core.Path.{◌≡◌, refl, sym, ap, ap₂, ◌∙◌, subst}
use mathlib.Core.Bool.{Bool}
use mathlib.Core.List.{List, [], ◌∷◌, ◌++◌, append_assoc}
use Prim.Native.Nat.{ℕ, ◌+◌, ◌≤◌}
use native.Mathlib.Omega.{arith}
use lib.ListN.{length, take, drop, get_or, length-append}
use lib.Seq.{take_at, drop_at, take-take}
use Rattle.rules.specs.Pages as Page
use Rattle.rules.specs.Pages.{entries, joined, ends_from, overlaid, changes_after, ends_after, marks_after, decode, read_one_line}
use Rattle.rules.proofs.Store.{length-joined}
use Rattle.rules.proofs.Within as W
use Rattle.rules.specs.Within.{within}
use Rattle.rules.proofs.Within.{front-joined, front_ends}
use Rattle.rules.proofs.Marks.{decode-came, came-as-many}
use Rattle.rules.proofs.Rooms.{decode-within, decode-front, decode-spent, four-wants, five-wants, four-never, four-never-more, five-never, one-within, one-front, one-spent, one-wants, one-never}
use Rattle.rules.specs.Lines.{head_or}
use Rattle.answer.specs.Answer.{row_answer_of}
use Rattle.answer.specs.declared.Answer.{Answer}
use Rattle.settings.specs.declared.DecodeSettings.{DecodeSettings}
use Rattle.settings.specs.Settings.{settings_of}
use Rattle.ccitt.specs.Decode.{Gives}
use Rattle.promises.specs.Rooms.{Call, places, rows_of, marks_of, loose_of, handed, Front, Roomier, FourFills, FiveFills, FourGoesOn, FiveGoesOn, SmallerRoom, SmallerRoomIsFront, RoomEnough, EntryForEachBit, LineCall, as_call, LineReading, LineFourFills, LineFourGoesOn, SmallerLine, SmallerLineIsFront, LineRoomEnough}
use Rattle.promises.proofs.Demand1.{changes-front, ends-front, marks-front, in-store}

-- ---- What a call handed over

-- a call that gives an answer of the rules
abbrev pub Answered : Page.Answer → Call → Type 0
Answered a c = Gives a c.changes c.ends c.marks c.answer c.changes' c.ends' c.marks'

module _ (a : Page.Answer) (c : Call) (given : Answered a c) where
  number_is : c.answer.number ≡ a.number
  number_is = ap (λ (x : Answer). x.number) given.answer

  rows-count : c.answer.rows ≡ length a.rows
  rows-count = ap (λ (x : Answer). x.rows) given.answer

  entries-count : c.answer.entries ≡ entries a.rows
  entries-count = ap (λ (x : Answer). x.entries) given.answer

  loose-count : c.answer.loose ≡ length a.loose
  loose-count = ap (λ (x : Answer). x.loose) given.answer

  pub rows_are : rows_of c ≡ a.rows
  rows_are = in-store a c.changes c.ends c.marks c.answer c.changes' c.ends' c.marks' given

  pub loose-are : loose_of c ≡ a.loose
  unfolding changes_after overlaid
  loose-are =
      ap (λ (l : List ℕ). take c.answer.loose (drop c.answer.entries l)) (given.changes ∙ append_assoc (joined a.rows) a.loose _)
      ∙ ap (take c.answer.loose) (drop_at (joined a.rows) (a.loose ++ _) c.answer.entries (length-joined a.rows ∙ sym entries-count))
      ∙ take_at a.loose _ c.answer.loose (sym loose-count)

  -- as many marks as rows
  module _ (as_many : length a.marks ≡ length a.rows) where
    pub marks_are : marks_of c ≡ a.marks
    marks_are = marks-front a c.changes c.ends c.marks c.answer c.changes' c.ends' c.marks' given as_many

    handed-is : handed c ≡ a
    handed-is i = record {
      number = number_is i;
      place = ap (λ (x : Answer). x.place) given.answer i;
      bytes = ap (λ (x : Answer). x.bytes) given.answer i;
      rows = rows_are i;
      marks = marks_are i;
      loose = loose-are i;
    }

  -- everything that was stored
  stored-length : length (joined a.rows ++ a.loose) ≡ c.answer.entries + c.answer.loose
  stored-length = length-append (joined a.rows) a.loose ∙ ap₂ (λ (x y : ℕ). x + y) (length-joined a.rows ∙ sym entries-count) (sym loose-count)

  stored_is : take (c.answer.entries + c.answer.loose) c.changes' ≡ joined a.rows ++ a.loose
  stored_is = changes-front a c.changes c.ends c.marks c.answer c.changes' c.ends' c.marks' given

  ends_are : take c.answer.rows c.ends' ≡ ends_from 0 a.rows
  ends_are = ends-front a c.changes c.ends c.marks c.answer c.changes' c.ends' c.marks' given

-- ---- Two rooms

-- a smaller call, whose answer keeps a front of the larger one's
module _ (a b : Page.Answer) (small large : Call) (given : Answered a small) (later : Answered b large) (f : W.Front b a) (as_many : length a.marks ≡ length a.rows) (all-marked : length b.marks ≡ length b.rows) where
  abbrev n : ℕ
  n = small.answer.entries + small.answer.loose

  rest : (more : List ℕ) × (joined b.rows ++ b.loose ≡ (joined a.rows ++ a.loose) ++ more)
  rest = front-joined f

  fewer : n ≤ large.answer.entries + large.answer.loose
  fewer = omega (arith, stored-length a small given, stored-length b large later, ap length rest.1, length-append (joined a.rows ++ a.loose) rest.0)

  fewer_rows : small.answer.rows ≤ large.answer.rows
  fewer_rows = omega (arith, rows-count a small given, rows-count b large later, f.fewer)

  pub is_front : Front small large
  is_front = record {
    fewer_rows = fewer_rows;
    fewer_entries = fewer;
    rows = rows_are a small given ∙ f.rows ∙ ap₂ (λ (k : ℕ) (l : List (List ℕ)). take k l) (sym (rows-count a small given)) (sym (rows_are b large later));
    loose = loose-are a small given ∙ f.loose ∙ ap₂ (λ (k : ℕ) (l : List ℕ). take k l) (sym (loose-count a small given)) next;
    changes =
        stored_is a small given
        ∙ sym
        (sym (take-take n (large.answer.entries + large.answer.loose) large.changes' fewer) ∙ ap (take n) (stored_is b large later ∙ rest.1)
        ∙ take_at (joined a.rows ++ a.loose) rest.0 n (stored-length a small given));
    ends =
        ends_are a small given
        ∙ sym
        (sym (take-take small.answer.rows large.answer.rows large.ends' fewer_rows)
        ∙ ap₂ (λ (k : ℕ) (l : List ℕ). take k l) (rows-count a small given) (ends_are b large later) ∙ front_ends f);
    marks =
        marks_are a small given as_many ∙ f.marks
        ∙ ap₂ (λ (k : ℕ) (l : List ℕ). take k l) (sym (rows-count a small given)) (sym (marks_are b large later all-marked))
        ∙ take-take small.answer.rows large.answer.rows large.marks' fewer_rows;
  }
    where
      next : get_or b.rows (length a.rows) b.loose ≡ get_or (rows_of large) small.answer.rows (loose_of large)
      next =
          ap (λ (k : ℕ). get_or b.rows k b.loose) (sym (rows-count a small given))
          ∙ ap₂ (λ (l : List (List ℕ)) (x : List ℕ). get_or l small.answer.rows x) (sym (rows_are b large later)) (sym (loose-are b large later))

-- a smaller call, whose answer is the larger one's cut, gives what `within` makes of what the larger one handed over
cut-gives : (store places : ℕ) (a b : Page.Answer) (small large : Call) → Answered a small → Answered b large → length b.marks ≡ length b.rows
    → a ≡ within store places b → Answered (within store places (handed large)) small
cut-gives store places a b small large given later as_many e =
    subst (λ (x : Page.Answer). Answered x small) (e ∙ ap (within store places) (sym (handed-is b large later as_many))) given

-- ---- The page form

module _ (bytes : List ℕ) (settings : DecodeSettings) where
  abbrev pub answer_in : Call → Page.Answer
  answer_in c = decode (settings_of settings) bytes (length c.changes) (places c)

  -- it has as many marks as rows
  pub as_many : (c : Call) → length (answer_in c).marks ≡ length (answer_in c).rows
  as_many c = came-as-many (decode-came (settings_of settings) bytes (length c.changes) (places c)).1

  -- longer arrays have no fewer places
  more-places : (small large : Call) → Roomier bytes settings small large → places small ≤ places large
  more-places small large t = omega (arith, t.ends, t.marks)

pub four-fills : FourFills
four-fills bytes settings c g q =
    let a = answer_in bytes settings c in
    let s = decode-spent (settings_of settings) bytes (length c.changes) (places c) in
    omega (arith, s.four (sym (number_is a c g) ∙ q), entries-count a c g, loose-count a c g)

pub five-fills : FiveFills
five-fills bytes settings c g q =
    let a = answer_in bytes settings c in
    let s = decode-spent (settings_of settings) bytes (length c.changes) (places c) in
    rows-count a c g ∙ s.five (sym (number_is a c g) ∙ q)

pub four-goes-on : FourGoesOn
four-goes-on bytes settings small large t h q =
    let a = answer_in bytes settings small in
    let b = answer_in bytes settings large in
    omega (arith, four-wants (settings_of settings) bytes (length small.changes) (length large.changes) (places small) (places large) t.changes (more-places bytes settings small large t) h (sym (number_is a small t.first) ∙ q), entries-count b large t.second, loose-count b large t.second)

pub five-goes-on : FiveGoesOn
five-goes-on bytes settings small large t h q =
    let a = answer_in bytes settings small in
    let b = answer_in bytes settings large in
    omega (arith, five-wants (settings_of settings) bytes (length small.changes) (length large.changes) (places small) (places large) t.changes (more-places bytes settings small large t) h (sym (number_is a small t.first) ∙ q), rows-count b large t.second)

pub smaller-room : SmallerRoom
smaller-room bytes settings small large t =
    cut-gives (length small.changes) (places small) (answer_in bytes settings small) (answer_in bytes settings large) small large t.first t.second (as_many bytes settings large)
    (decode-within (settings_of settings) bytes (length small.changes) (length large.changes) (places small) (places large) t.changes (more-places bytes settings small large t))

pub smaller-room-is-front : SmallerRoomIsFront
smaller-room-is-front bytes settings small large t =
    is_front (answer_in bytes settings small) (answer_in bytes settings large) small large t.first t.second
    (decode-front (settings_of settings) bytes (length small.changes) (length large.changes) (places small) (places large) t.changes (more-places bytes settings small large t)) (as_many bytes settings small) (as_many bytes settings large)

pub room-enough : RoomEnough
room-enough bytes settings c g =
    let a = answer_in bytes settings c in (
      (λ h q. four-never (settings_of settings) bytes (length c.changes) (places c) h (sym (number_is a c g) ∙ q)),
      λ h q. five-never (settings_of settings) bytes (length c.changes) (places c) h (sym (number_is a c g) ∙ q),
    )

pub entry-for-each-bit : EntryForEachBit
entry-for-each-bit bytes settings c g h q = four-never-more (settings_of settings) bytes (length c.changes) (places c) h (sym (number_is (answer_in bytes settings c) c g) ∙ q)

-- ---- One line

module _ (bytes : List ℕ) (at columns : ℕ) (strict : Bool) (reference : List ℕ) where
  abbrev line_in : LineCall → Page.Answer
  line_in c = read_one_line bytes at columns strict reference (length c.changes)

  -- at most one row, with the end that counts its entries
  one_end : (rows : List (List ℕ)) → length rows ≤ 1 → entries rows ∷ [] ≡ overlaid (ends_from 0 rows) (0 ∷ [])
  unfolding entries ends_from overlaid
  one_end [] h = refl
  one_end (r ∷ []) h = ap (λ (n : ℕ). n ∷ []) (let q : length r + 0 ≡ 0 + length r = omega arith in q)
  one_end (r ∷ s ∷ rows) h = absurd (omega arith)

  -- a line's call is answered as a page's that is lent one row end
  line_marked : (c : LineCall) → length (line_in c).marks ≡ length (line_in c).rows
  line_marked c = (one-spent bytes at columns strict reference (length c.changes)).marked

  -- at most one mark
  one-mark : (marks : List ℕ) → length marks ≤ 1 → head_or 0 marks ∷ [] ≡ overlaid marks (0 ∷ [])
  unfolding overlaid
  one-mark [] h = refl
  one-mark (m ∷ []) h = refl
  one-mark (m ∷ n ∷ marks) h = absurd (omega arith)

  line_gives : (c : LineCall) → LineReading bytes at columns strict reference c → Answered (line_in c) (as_call c)
  unfolding ends_after marks_after
  line_gives c g =
      let one = (one-spent bytes at columns strict reference (length c.changes)).one_row in
      record {
        answer =
            ap (λ (x : Answer). record { number = x.number; mark = 0; rows = x.rows; entries = x.entries; loose = x.loose; bytes = x.bytes; place = x.place }) g.answer;
        changes = g.store;
        ends = ap (λ (x : Answer). x.entries ∷ []) g.answer ∙ one_end (line_in c).rows one;
        marks = ap (λ (x : Answer). x.mark ∷ []) g.answer ∙ one-mark (line_in c).marks (omega (arith, line_marked c, one));
      }

pub line-four-fills : LineFourFills
line-four-fills bytes at columns strict reference c g =
    let a = line_in bytes at columns strict reference c in
    let d = line_gives bytes at columns strict reference c g in
    let s = one-spent bytes at columns strict reference (length c.changes) in
    ((λ q. omega (arith, s.four (sym (number_is a (as_call c) d) ∙ q), entries-count a (as_call c) d, loose-count a (as_call c) d)), λ q. s.five (sym (number_is a (as_call c) d) ∙ q))

pub line-four-goes-on : LineFourGoesOn
line-four-goes-on bytes at columns strict reference small large t h q =
    let a = line_in bytes at columns strict reference small in
    let b = line_in bytes at columns strict reference large in
    let d = line_gives bytes at columns strict reference small t.first in
    let e = line_gives bytes at columns strict reference large t.second in
    omega (arith, one-wants bytes at columns strict reference (length small.changes) (length large.changes) t.changes h (sym (number_is a (as_call small) d) ∙ q), entries-count b (as_call large) e, loose-count b (as_call large) e)

pub smaller-line : SmallerLine
smaller-line bytes at columns strict reference small large t = (t.first.answer ∙ ap row_answer_of cut, t.first.store ∙ ap (λ (x : Page.Answer). changes_after x small.changes) cut)
  where
    cut : line_in bytes at columns strict reference small ≡ within (length small.changes) 1 (handed (as_call large))
    cut =
        one-within bytes at columns strict reference (length small.changes) (length large.changes) t.changes
        ∙ ap (within (length small.changes) 1)
        (sym (handed-is (line_in bytes at columns strict reference large) (as_call large) (line_gives bytes at columns strict reference large t.second) (line_marked bytes at columns strict reference large)))

pub smaller-line-is-front : SmallerLineIsFront
smaller-line-is-front bytes at columns strict reference small large t =
    is_front (line_in bytes at columns strict reference small) (line_in bytes at columns strict reference large) (as_call small) (as_call large)
    (line_gives bytes at columns strict reference small t.first) (line_gives bytes at columns strict reference large t.second)
    (one-front bytes at columns strict reference (length small.changes) (length large.changes) t.changes) (line_marked bytes at columns strict reference small)
    (line_marked bytes at columns strict reference large)

pub line-room-enough : LineRoomEnough
line-room-enough bytes at columns strict reference c g h q =
    let d = line_gives bytes at columns strict reference c g in
    one-never bytes at columns strict reference (length c.changes) h (sym (number_is (line_in bytes at columns strict reference c) (as_call c) d) ∙ q)
