-- One turn of the page loop is one step of the page machine: where the store and its ends stand between rows, and what each turn makes of them.
-- Assumes nothing.
use mathlib.Core.Path.{◌≡◌, refl, sym, ap, ap₂, ◌∙◌, subst, subst₂}
use mathlib.Core.Bool.{Bool, true, false, cond, not, ◌&&◌, ◌||◌}
use mathlib.Core.List.{List, [], ◌∷◌, ◌++◌, append_assoc}
use Prim.Native.Nat.{ℕ, suc, ◌+◌, ◌*◌, ◌-◌, ◌≤◌, ◌<◌}
use native.Mathlib.Omega.{arith}
use lib.Dec.{eqb}
use lib.ListN.{length, take, drop, set, length-append, length-set}
use lib.Seq.{take_at, drop_at}
use borrow.Author.Tests.{eq-eqb, ne_eqb, lt-ltb, le-ltb}
use Rattle.std.specs.Prelude.{Ok, Err}
use Rattle.rules.specs.Machine.{Out, more, done, ends}
use Rattle.rules.specs.Bits.{bits_of}
use Rattle.rules.specs.Rows as Rule
use Rattle.rules.specs.Rows.{Encoding, Settings, RowOut, row, stop}
use Rattle.rules.specs.Pages as Page
use Rattle.rules.specs.Pages.{most_bytes, entries, none_kept, with_row, end_with, row_of, rows_left, page_of, read_page, too_few, short_of, unless_short, decode, places_in, overlaid, joined, ends_from, changes_after, ends_after, marks_after}
use Rattle.rules.proofs.Machine.{ends_more, ends-done}
use Rattle.rules.proofs.Bits.{length-bits_of}
use Rattle.rules.specs.Rising.{Rising}
use Rattle.rules.proofs.Budget.{Bytes}
use Rattle.rules.specs.Standing.{gives_up, has_given_up}
use Rattle.rules.proofs.GivenUp.{Had, had-start, had-next, had-end}
use Rattle.rules.proofs.Answers.{short-rows}
use Rattle.rules.proofs.Pages.{Onward, Moved, Goes, Does, row_goes, row-does, step, room_for, page-kept, page-full, page-stopped, page-falls, Held, held_start, held_next, held-entries}
use Rattle.rules.proofs.Marks.{RowMarked, row-marked}
use Rattle.rules.proofs.Store.{length-overlaid, overlaid-nothing, overlaid-behind, overlaid-one, length-joined, joined_snoc, length-ends, ends_snoc}
use Rattle.tables.specs.Pairs.{pair_table}
use Rattle.tables.specs.Tables.{Lookups}
use Rattle.context.specs.declared.reference.Reference.{Reference}
use Rattle.context.specs.Coding.{Placed, PairedFor}
use Rattle.answer.specs.Answer.{answer_of}
use Rattle.answer.specs.declared.Answer.{Answer}
use Rattle.settings.specs.declared.DecodeSettings.{DecodeSettings}
use Rattle.settings.specs.declared.State.{State}
use Rattle.settings.specs.Settings.{settings_of, strict_for}
use Rattle.settings.proofs.Ended.{kept-parts, stop-parts}
use Rattle.settings.specs.Between.{Row, kept_row, page_stop, state_of, row_for, changes_in, RowFrom, Rowed}
use Rattle.ccitt.specs.declared.Watched.{Watched}
use Rattle.ccitt.specs.Decode.{counted, behind_row, Behind, PageFrom, Gives, Sees, told_of, short_for, refused_with, Watches}

-- ---- What an answer of the code says of the outcome

record StopOf (n p b m : ℕ) (w : RowOut) : Type 0 where
  loose : List ℕ
  is : w ≡ stop n p b loose
  size : length loose ≡ m

stop-of : {n p b m : ℕ} (w : RowOut) → Err (page_stop n p b m) ≡ row_for w → StopOf n p b m w
stop-of (row r mark next) e = absurd (let z : ◌≡◌ {A = ℕ} 0 1 = cc in omega arith)
stop-of {n} {p} {b} {m} (stop n' p' b' l) e =
    let (number, place, bytes, size) = stop-parts e in
    record { loose = l; is = λ i. stop (sym number i) (sym place i) (sym bytes i) l; size = sym size }

record RowIs (count mark at : ℕ) (eols : Bool) (w : RowOut) : Type 0 where
  changes : List ℕ
  next : Rule.State
  is : w ≡ row changes mark next
  size : length changes ≡ count
  at-is : next.at ≡ at
  eols-is : next.eols ≡ eols

row-of : {count mark at : ℕ} {eols : Bool} (w : RowOut) → Ok (kept_row count mark at eols) ≡ row_for w → RowIs count mark at eols w
row-of (row r m next) e =
    let (count, mark, at, eols) = kept-parts e in
    record { changes = r; next = next; is = ap (λ (n : ℕ). row r n next) (sym mark); size = sym count; at-is = sym at; eols-is = sym eols }
row-of (stop n p b l) e = absurd (let z : ◌≡◌ {A = ℕ} 0 1 = cc in omega arith)

-- ---- Between rows

module _ (bytes : List ℕ) (settings : DecodeSettings) (size : length bytes ≤ most_bytes) (wide : 0 < settings.columns) (narrow : settings.columns < 4294967295) (xs es ms : List ℕ) where
  abbrev pub S : Settings
  S = settings_of settings

  abbrev pub enc : Encoding
  enc = S.encoding

  abbrev pub bs : List Bool
  bs = bits_of bytes

  pub data-bytes : Bytes bs
  data-bytes = record { count = length bytes; whole = length-bits_of bytes }

  abbrev pub stepped : Page.Kept → Out Page.Kept Page.Answer
  stepped = step enc S wide bs data-bytes (length xs) (places_in es ms)

  abbrev pub Holds : Page.Kept → Type 0
  Holds k = Held enc S wide bs data-bytes (length xs) (places_in es ms) k

  -- the machine stands at k, and the arrays hold its rows
  pub record Going (ys fs ns : List ℕ) (st : State) : Type 0 where
    pub kept : Page.Kept
    pub held : Holds kept
    pub same : ends stepped (rows_left bs) kept ≡ ends stepped (rows_left bs) none_kept
    pub state : state_of [] ys st ≡ kept.state
    pub base : st.base ≡ entries kept.rows
    pub from : ℕ
    pub refers : st.reference ≡ Reference.Kept from
    pub ordered : from ≤ st.base
    pub changes : ys ≡ overlaid (joined kept.rows) xs
    pub row_ends : fs ≡ overlaid (ends_from 0 kept.rows) es
    pub as_many : length kept.marks ≡ length kept.rows
    pub marks : ns ≡ overlaid kept.marks ms

  -- whether EOLs were expected behind one of its rows, which tells with its state whether they were given up
  abbrev pub Ever : Page.Kept → Bool → Type 0
  Ever k ever = Had enc S wide bs data-bytes (length xs) (places_in es ms) k ever

  pub going_start : Going xs es ms (record { at = 0; rows = 0; reference = Reference.Kept 0; base = 0; eols = false })
  unfolding entries joined ends_from
  going_start = record {
    kept = none_kept;
    held = held_start enc S wide bs data-bytes (length xs) (places_in es ms);
    same = refl;
    state = refl;
    base = refl;
    from = 0;
    refers = refl;
    ordered = omega arith;
    changes = sym (overlaid-nothing xs);
    row_ends = sym (overlaid-nothing es);
    as_many = refl;
    marks = sym (overlaid-nothing ms);
  }

  module _ (ys fs ns : List ℕ) (st : State) (g : Going ys fs ns st) where
    k : Page.Kept
    k = g.kept

    length-ys : length ys ≡ length xs
    length-ys = ap length g.changes ∙ length-overlaid (joined g.kept.rows) xs (omega (arith, length-joined g.kept.rows, g.held.roomy))

    rows_is : st.rows ≡ length g.kept.rows
    rows_is = ap (λ (s : Rule.State). s.count) g.state ∙ g.held.counted

    inside : st.base ≤ length ys
    inside = omega (arith, g.base, g.held.roomy, length-ys)

    -- what a row asks
    pub row-asked : RowFrom bytes [] ys settings st
    row-asked = record {
      loading = record { size = size; inside = omega (arith, ap (λ (s : Rule.State). s.at) g.state, g.held.inside, length-bits_of bytes) };
      wide = wide;
      narrow = narrow;
      placed = subst (λ (p : Reference). Placed p st.base ys) (sym g.refers) (g.ordered, inside);
      held = inside;
      rising = subst (Rising settings.columns 0) (sym (ap (λ (s : Rule.State). s.reference) g.state)) g.held.reference;
    }

    -- the row of the code is the machine's
    outcome : row_of enc S bs (length ys - st.base) (state_of [] ys st) ≡ row_of enc S bs (room_for enc S wide bs data-bytes (length xs) (places_in es ms) g.kept) g.kept.state
    outcome = ap₂ (λ (n : ℕ) (s : Rule.State). row_of enc S bs n s) (ap₂ (λ (a b : ℕ). a - b) length-ys g.base) g.state

    -- the changes behind the rows
    behind : (zs r : List ℕ) → zs ≡ take st.base ys ++ overlaid r (drop st.base ys) → zs ≡ overlaid (joined g.kept.rows ++ r) xs
    behind zs r e =
        e ∙ ap (λ (l : List ℕ). take st.base l ++ overlaid r (drop st.base l)) g.changes
        ∙ overlaid-behind (joined g.kept.rows) r xs st.base (length-joined g.kept.rows ∙ sym g.base)

    bits : length bs ≤ 8 * most_bytes
    bits = omega (arith, length-bits_of bytes)

    -- the page's answer
    answers : (a : Page.Answer) → stepped g.kept ≡ done a → read_page S bs (length xs) (places_in es ms) ≡ a
    unfolding read_page
    answers a e = ap page_of (sym g.same ∙ ends-done stepped (rows_left bs) (page-falls enc S wide bs data-bytes (length xs) (places_in es ms)) g.kept a e)

    -- an answer that was reached, with the arrays as they stand
    given : (ever : Bool) → Ever g.kept ever → (n p b m : ℕ) (loose zs : List ℕ) → length loose ≡ m → zs ≡ take st.base ys ++ overlaid loose (drop st.base ys)
        → stepped g.kept ≡ done (end_with g.kept n p b loose)
        → Sees bytes settings xs es ms (told_of (counted n p st.rows st.base m b) ever st.eols) zs fs ns
    unfolding changes_after ends_after marks_after
    given ever had n p b m loose zs l e q = record {
      reads =
          subst (λ (a : Page.Answer). Gives a xs es ms (counted n p st.rows st.base m b) zs fs ns) (sym (answers _ q))
          (record {
            answer = λ i. counted n p (rows_is i) (g.base i) (sym l i) b;
            changes = behind zs loose e;
            ends = g.row_ends;
            marks = g.marks;
          });
      gave_up =
          ap (λ (s : Rule.State). ever && not s.eols) g.state
          ∙ sym (ap (λ (a : Page.Answer). gives_up (row_of enc S bs) (length a.rows) (length xs) Rule.page_start) (answers _ q) ∙ had-end enc S wide bs data-bytes (length xs) (places_in es ms) g.kept ever had);
    }

    module _ (r : Row) (zs : List ℕ) (o : Rowed bytes [] ys settings st r zs) where
      -- the page has ended
      module _ (n p b m : ℕ) (e : r ≡ Err (page_stop n p b m)) where
        s : StopOf n p b m (row_of enc S bs (length ys - st.base) (state_of [] ys st))
        s = stop-of (row_of enc S bs (length ys - st.base) (state_of [] ys st)) (sym e ∙ o.answer)

        stops : row_of enc S bs (room_for enc S wide bs data-bytes (length xs) (places_in es ms) g.kept) g.kept.state ≡ stop n p b s.loose
        stops = sym outcome ∙ s.is

        pub stopped-gives : (ever : Bool) → Ever g.kept ever → Sees bytes settings xs es ms (told_of (counted n p st.rows st.base m b) ever st.eols) zs fs ns
        unfolding s
        stopped-gives ever had =
            given ever had n p b m s.loose zs s.size (o.store ∙ ap (λ (w : RowOut). take st.base ys ++ overlaid (changes_in w) (drop st.base ys)) s.is)
            (page-stopped enc S wide bs data-bytes (length xs) (places_in es ms) g.kept n p b s.loose stops)

      -- a row
      module _ (count mark at : ℕ) (eols : Bool) (e : r ≡ Ok (kept_row count mark at eols)) where
        t : RowIs count mark at eols (row_of enc S bs (length ys - st.base) (state_of [] ys st))
        t = row-of (row_of enc S bs (length ys - st.base) (state_of [] ys st)) (sym e ∙ o.answer)

        reads : row_of enc S bs (room_for enc S wide bs data-bytes (length xs) (places_in es ms) g.kept) g.kept.state ≡ row t.changes mark t.next
        reads = sym outcome ∙ t.is

        does : Moved S bs (room_for enc S wide bs data-bytes (length xs) (places_in es ms) g.kept) g.kept.state t.changes t.next
        does = subst (Does S bs _ g.kept.state) reads (row-does S wide bs data-bytes _ g.kept.state enc g.held.fitting g.held.inside)

        stored : zs ≡ overlaid (joined g.kept.rows ++ t.changes) xs
        stored = behind zs t.changes (o.store ∙ ap (λ (w : RowOut). take st.base ys ++ overlaid (changes_in w) (drop st.base ys)) t.is)

        -- its mark is one of the list
        pub marked : mark ≤ 2
        marked = subst RowMarked reads (row-marked S bs _ g.kept.state enc)

        -- no place is left
        pub full-gives : places_in es ms ≤ st.rows → (ever : Bool) → Ever g.kept ever
            → Sees bytes settings xs es ms (told_of (counted 5 0 st.rows st.base count 0) ever st.eols) zs fs ns
        unfolding t
        full-gives h ever had =
            given ever had 5 0 0 count t.changes zs t.size (o.store ∙ ap (λ (w : RowOut). take st.base ys ++ overlaid (changes_in w) (drop st.base ys)) t.is)
            (page-full enc S wide bs data-bytes (length xs) (places_in es ms) g.kept t.changes mark t.next reads (omega (arith, rows_is)))

        module _ (place : st.rows < places_in es ms) where
          next : Page.Kept
          next = with_row g.kept t.changes mark t.next

          stepping : stepped g.kept ≡ more next
          unfolding next
          stepping = page-kept enc S wide bs data-bytes (length xs) (places_in es ms) g.kept t.changes mark t.next reads (omega (arith, rows_is))

          holds : Holds next
          holds = held_next enc S wide bs data-bytes (length xs) (places_in es ms) g.kept next g.held stepping

          more-entries : entries next.rows ≡ st.base + count
          unfolding next t
          more-entries = sym (length-joined next.rows) ∙ ap length (joined_snoc g.kept.rows t.changes) ∙ length-append (joined g.kept.rows) t.changes ∙ ap₂ (λ (a b : ℕ). a + b) (length-joined g.kept.rows ∙ sym g.base) t.size

          pub behind-asked : Behind st count
          behind-asked = record {
            few_rows = omega (arith, rows_is, g.held.few, g.held.inside, bits);
            few_entries = omega (arith, more-entries, held-entries enc S wide bs data-bytes (length xs) (places_in es ms) next holds, bits);
          }

          state-next : state_of [] zs (behind_row st count at eols) ≡ t.next
          unfolding t overlaid
          state-next = λ i. record {
            at = sym t.at-is i;
            reference = (front ∙ sym does.refers) i;
            count = (ap (λ (n : ℕ). n + 1) (ap (λ (s : Rule.State). s.count) g.state) ∙ (let q : g.kept.state.count + 1 ≡ suc g.kept.state.count = omega arith in q) ∙ sym onward.counted) i;
            eols = sym t.eols-is i;
          }
            where
              onward : Onward bs g.kept.state t.next
              onward = subst (Goes bs g.kept.state) reads (row_goes S wide bs data-bytes _ g.kept.state enc)

              J : List ℕ
              J = joined g.kept.rows

              front : take (st.base + count - st.base) (drop st.base zs) ≡ t.changes
              front =
                  ap₂ (λ (n : ℕ) (l : List ℕ). take n (drop st.base l)) (let q : st.base + count - st.base ≡ length t.changes = omega (arith, t.size) in q) (stored ∙ append_assoc J t.changes (drop (length (J ++ t.changes)) xs))
                  ∙ ap (take (length t.changes)) (drop_at J (t.changes ++ drop (length (J ++ t.changes)) xs) st.base (length-joined g.kept.rows ∙ sym g.base))
                  ∙ take_at t.changes (drop (length (J ++ t.changes)) xs) (length t.changes) refl

          pub going_next : Going zs (set fs st.rows (st.base + count)) (set ns st.rows mark) (behind_row st count at eols)
          unfolding next t
          going_next = record {
            kept = next;
            held = holds;
            same = sym (ends_more stepped (rows_left bs) (page-falls enc S wide bs data-bytes (length xs) (places_in es ms)) g.kept next stepping) ∙ g.same;
            state = state-next;
            base = sym more-entries;
            from = st.base;
            refers = refl;
            ordered = omega arith;
            changes = stored ∙ ap (λ (l : List ℕ). overlaid l xs) (sym (joined_snoc g.kept.rows t.changes));
            row_ends = set-end;
            as_many = omega (arith, length-append g.kept.marks (mark ∷ []), length-append g.kept.rows (t.changes ∷ []), g.as_many);
            marks = ap (λ (l : List ℕ). set l st.rows mark) g.marks ∙ overlaid-one g.kept.marks ms mark st.rows (g.as_many ∙ sym rows_is) (omega arith);
          }
            where
              set-end : set fs st.rows (st.base + count) ≡ overlaid (ends_from 0 (g.kept.rows ++ t.changes ∷ [])) es
              set-end =
                  ap (λ (l : List ℕ). set l st.rows (st.base + count)) g.row_ends
                  ∙ overlaid-one (ends_from 0 g.kept.rows) es (st.base + count) st.rows (length-ends 0 g.kept.rows ∙ sym rows_is) (omega arith)
                  ∙ ap (λ (l : List ℕ). overlaid l es) (ap (λ (n : ℕ). ends_from 0 g.kept.rows ++ n ∷ []) (let q : st.base + count ≡ 0 + entries g.kept.rows + length t.changes = omega (arith, g.base, t.size) in q) ∙ sym (ends_snoc 0 g.kept.rows t.changes))

          pub going-had : (ever : Bool) → Ever g.kept ever → Ever going_next.kept (ever || eols)
          unfolding going_next next t
          going-had ever had = subst (λ (b : Bool). Ever next (ever || b)) t.eols-is (had-next enc S wide bs data-bytes (length xs) (places_in es ms) g.kept ever had t.changes mark t.next reads)

          -- what falls with each row
          pub going-falls : length bs - at + cond (eqb (st.rows + 1) 0) 1 0 < length bs - st.at + cond (eqb st.rows 0) 1 0
          unfolding next t
          going-falls =
              subst₂ (λ (a b : ℕ). a < b)
              (ap₂ (λ (a c : ℕ). length bs - a + cond (eqb c 0) 1 0) t.at-is (sym (ap (λ (s : Rule.State). s.count) state-next)))
              (ap₂ (λ (a c : ℕ). length bs - a + cond (eqb c 0) 1 0) (sym (ap (λ (s : Rule.State). s.at) g.state)) (sym (ap (λ (s : Rule.State). s.count) g.state)))
              (page-falls enc S wide bs data-bytes (length xs) (places_in es ms) g.kept next stepping)

-- ---- The loop's invariant

-- the tests were passed, and the machine goes on
pub record Turn (bytes : List ℕ) (settings : DecodeSettings) (xs es ms ys fs ns : List ℕ) (st : State) (ever : Bool) : Type 0 where
  pub size : length bytes ≤ most_bytes
  pub wide : 0 < settings.columns
  pub narrow : settings.columns < 4294967295
  pub going : Going bytes settings size wide narrow xs es ms ys fs ns st
  pub had : Ever bytes settings size wide narrow xs es ms going.kept ever
  pub same_changes : length ys ≡ length xs
  pub same_ends : length fs ≡ length es
  pub same_marks : length ns ≡ length ms

-- a page is lent all the tables, whatever its reference
pub kept-paired : (place : Reference) {w b both : List ℕ} → Lookups w b → both ≡ pair_table → PairedFor place w b both
kept-paired Reference.Lent l p = tt
kept-paired (Reference.Kept start) l p = (l, p)

-- what falls with each turn
abbrev pub turns_left : List ℕ → State → ℕ
turns_left bytes st = length (bits_of bytes) - st.at + cond (eqb st.rows 0) 1 0

pub turn-start : (bytes : List ℕ) (settings : DecodeSettings) (xs es ms : List ℕ) → PageFrom bytes settings
    → Turn bytes settings xs es ms xs es ms (record { at = 0; rows = 0; reference = Reference.Kept 0; base = 0; eols = false }) false
unfolding going_start
turn-start bytes settings xs es ms p = record { size = p.size; wide = p.wide; narrow = p.narrow; going = going_start bytes settings p.size p.wide p.narrow xs es ms; had = had-start _ _ p.wide _ _ (length xs) (places_in es ms); same_changes = refl; same_ends = refl; same_marks = refl }

module _ {bytes : List ℕ} {settings : DecodeSettings} {xs es ms ys fs ns : List ℕ} {st : State} {ever : Bool} (t : Turn bytes settings xs es ms ys fs ns st ever) where
  pub turn-asked : RowFrom bytes [] ys settings st
  turn-asked = row-asked bytes settings t.size t.wide t.narrow xs es ms ys fs ns st t.going

  module _ {r : Row} {zs : List ℕ} (o : Rowed bytes [] ys settings st r zs) where
    pub turn_stopped : {n p b m : ℕ} → r ≡ Err (page_stop n p b m) → Sees bytes settings xs es ms (told_of (counted n p st.rows st.base m b) ever st.eols) zs fs ns
    turn_stopped {n} {p} {b} {m} e =
        stopped-gives bytes settings t.size t.wide t.narrow xs es ms ys fs ns st t.going r zs o n p b m e ever t.had

    module _ {count mark at : ℕ} {eols : Bool} (e : r ≡ Ok (kept_row count mark at eols)) where
      pub turn-marked : mark ≤ 2
      turn-marked = marked bytes settings t.size t.wide t.narrow xs es ms ys fs ns st t.going r zs o count mark at eols e

      pub turn-full : places_in es ms ≤ st.rows → Sees bytes settings xs es ms (told_of (counted 5 0 st.rows st.base count 0) ever st.eols) zs fs ns
      turn-full h = full-gives bytes settings t.size t.wide t.narrow xs es ms ys fs ns st t.going r zs o count mark at eols e h ever t.had

      module _ (place : st.rows < places_in es ms) where
        pub turn-behind : Behind st count
        turn-behind = behind-asked bytes settings t.size t.wide t.narrow xs es ms ys fs ns st t.going r zs o count mark at eols e place

        pub turn-next : length zs ≡ length ys → Turn bytes settings xs es ms zs (set fs st.rows (st.base + count)) (set ns st.rows mark) (behind_row st count at eols) (ever || eols)
        turn-next q = record {
          size = t.size;
          wide = t.wide;
          narrow = t.narrow;
          going = going_next bytes settings t.size t.wide t.narrow xs es ms ys fs ns st t.going r zs o count mark at eols e place;
          had = going-had bytes settings t.size t.wide t.narrow xs es ms ys fs ns st t.going r zs o count mark at eols e place ever t.had;
          same_changes = q ∙ t.same_changes;
          same_ends = length-set fs st.rows (st.base + count) ∙ t.same_ends;
          same_marks = length-set ns st.rows mark ∙ t.same_marks;
        }

        pub turn-falls : turns_left bytes (behind_row st count at eols) < turns_left bytes st
        turn-falls = going-falls bytes settings t.size t.wide t.narrow xs es ms ys fs ns st t.going r zs o count mark at eols e place

-- ---- The tests before any reading

module _ (bytes : List ℕ) (settings : DecodeSettings) (xs es ms : List ℕ) where
  abbrev said : Page.Answer
  said = decode (settings_of settings) bytes (length xs) (places_in es ms)

  -- a refusal leaves everything as found, and keeps no row
  refused : (n : ℕ) → said ≡ Page.refusal n → Watches bytes settings xs es ms (refused_with n) xs es ms
  unfolding changes_after ends_after marks_after joined ends_from gives_up has_given_up
  refused n e = record {
    decodes =
        subst (λ (a : Page.Answer). Gives a xs es ms (answer_of (Page.refusal n)) xs es ms) (sym e)
        (record { answer = refl; changes = sym (overlaid-nothing xs); ends = sym (overlaid-nothing es); marks = sym (overlaid-nothing ms) });
    gave_up = sym (ap (λ (a : Page.Answer). gives_up (row_of (settings_of settings).encoding (Page.strict_if_exact (settings_of settings)) (bits_of bytes)) (length a.rows) (length xs) Rule.page_start) e);
  }

  -- an answer that is short of rows keeps the arrays
  short-gives : (a : Page.Answer) {r : Answer} {ys fs ns : List ℕ} → Gives a xs es ms r ys fs ns → Gives (unless_short (settings_of settings) a) xs es ms (short_for settings r) ys fs ns
  unfolding changes_after ends_after marks_after
  short-gives a {r} {ys} {fs} {ns} g = subst (λ (s : Answer). Gives (unless_short (settings_of settings) a) xs es ms (short_for settings s) ys fs ns) (sym g.answer) (tests (too_few (settings_of settings) a.number (length a.rows)))
    where
      tests : (b : Bool) → Gives (cond b (short_of a) a) xs es ms (cond b (answer_of (short_of a)) (answer_of a)) ys fs ns
      tests true = record { answer = refl; changes = g.changes; ends = g.ends; marks = g.marks }
      tests false = record { answer = refl; changes = g.changes; ends = g.ends; marks = g.marks }

  pub refused-6 : settings.columns ≡ 4294967295 → Watches bytes settings xs es ms (refused_with 6) xs es ms
  unfolding decode
  refused-6 e = refused 6 (rw (eq-eqb _ _ e, decode))

  module _ (narrow : settings.columns ≡ 4294967295 → ⊥) where
    pub refused-7 : most_bytes < length bytes → Watches bytes settings xs es ms (refused_with 7) xs es ms
    unfolding decode
    refused-7 h = refused 7 (rw (ne_eqb _ _ narrow, lt-ltb _ _ h, decode))

    module _ (size : length bytes ≤ most_bytes) where
      pub without_columns : settings.columns ≡ 0 → Watches bytes settings xs es ms (refused_with 0) xs es ms
      unfolding decode
      without_columns e = refused 0 (rw (ne_eqb _ _ narrow, le-ltb _ _ size, eq-eqb _ _ e, decode))

      pub page-read : (settings.columns ≡ 0 → ⊥) → {r : Watched} {ys fs ns : List ℕ} → Sees bytes (strict_for settings) xs es ms r ys fs ns
          → Watches bytes settings xs es ms (record { answer = short_for settings r.answer; gave_up = r.gave_up }) ys fs ns
      unfolding decode has_given_up
      page-read ne {r} {ys} {fs} {ns} g = record {
        decodes = subst (λ (a : Page.Answer). Gives a xs es ms (short_for settings r.answer) ys fs ns) (sym reads) (short-gives page g.reads);
        gave_up =
            g.gave_up
            ∙ ap (λ (rows : List (List ℕ)). gives_up (row_of (settings_of settings).encoding (settings_of (strict_for settings)) (bits_of bytes)) (length rows) (length xs) Rule.page_start)
            (sym (ap (λ (a : Page.Answer). a.rows) reads ∙ short-rows (settings_of settings) page));
      }
        where
          page : Page.Answer
          page = read_page (settings_of (strict_for settings)) (bits_of bytes) (length xs) (places_in es ms)

          reads : said ≡ unless_short (settings_of settings) page
          reads = rw (ne_eqb _ _ narrow, le-ltb _ _ size, ne_eqb _ _ ne, decode)
