-- Damage never reaches back: what the rules say of two data that agree in their first bits, over the contracts of `read_row` and of `decode`. Assumes nothing.
use mathlib.Core.Path.{◌≡◌, refl, sym, ap, ◌∙◌, subst}
use mathlib.Core.Logic.{◌⊎◌, inl, inr, ⊎_elim}
use mathlib.Core.List.{List, [], ◌∷◌, ◌++◌, append-nil}
use Prim.Native.Nat.{ℕ, zero, suc, ◌+◌, ◌≤◌, ◌<◌}
use native.Mathlib.Omega.{arith}
use lib.ListN.{length, take, length-append}
use lib.Seq.{take_at}
use Rattle.rules.specs.Answers.{more_to_come, most_pixels}
use Rattle.rules.specs.Machine.{Out, more, done, and_then, run}
use Rattle.rules.specs.Bits.{bits_of}
use Rattle.rules.specs.Rows.{Settings}
use Rattle.rules.specs.Pages as Rules
use Rattle.rules.specs.Pages.{Kept, none_kept, with_row, page_step, row_of, strict_if_exact, most_bytes, decode}
use Rattle.rules.specs.ByRow as Rule
use Rattle.rules.specs.ByRow.{Caller, call_step, between}
use Rattle.rules.specs.Standing.{WasRead, SettledBy, KeepsEols, last_or}
use Rattle.rules.proofs.Agree.{Agree}
use Rattle.rules.proofs.Budget.{whole-bytes}
use Rattle.rules.proofs.Answers.{Refuses, too_wide, too_long, without_columns, Allowed, decode-cases}
use Rattle.rules.proofs.Pages.{page-cases}
use Rattle.rules.proofs.ByRow.{Own, own-start}
use Rattle.rules.proofs.Standing.{agree_of, Stands, SettledIn, stands-as, settled-inside, Fronts, never_back, Begun, last_snoc, kept-counted, sure-stands, read-stands}
use Rattle.rules.proofs.StandingCalls.{KeptEols, call_same, step-own, step-ahead, last-same, followed_same, sure-gave}
use Rattle.rules.proofs.GivenUp.{sure-gave-none, none-gave-stays}
use Rattle.rules.proofs.Blamed.{decode-refused, decode-watched-refused}
use Rattle.rules.proofs.Lost.{decode-lost}
use Rattle.answer.specs.declared.Answer.{Answer}
use Rattle.settings.specs.declared.DecodeSettings.{DecodeSettings}
use Rattle.settings.specs.Settings.{settings_of}
use Rattle.by_row.specs.declared.RowState.{RowState}
use Rattle.by_row.specs.ByRow.{side_of, row_state_of, Gives}
use Rattle.promises.specs.Rooms.{Call, places, rows_of, marks_of, Reading}
use Rattle.promises.specs.ByRow.{RowCall, RowReading, number_of, mark_of, changes_of, Handed, Follows}
use Rattle.promises.specs.NeverBack.{read_as, SureFor, EolsStay, AllStay, Reaches, SameRoom, DamageNeverReachesBack, CallNeverReachesBack, SameFirst, PageNeverReachesBack, RefusedRowsStand, SureGivesNoneUp, WatchedNeverReachesBack, WatchedRefusedRowsStand, OnlyWithoutEols}
use Rattle.promises.proofs.Rooms.{answer_in, rows_are, marks_are, as_many}
use Rattle.promises.proofs.ByRow.{both, told, number_is, at, handed-at, step-more, Passed, passed, last-reads, sound-passes}

-- ---- The row form

-- a call that comes to the same over the other data is a call there
module _ (bytes bytes' : List ℕ) (settings : DecodeSettings) (c : RowCall) (g : RowReading bytes settings c) where
  over : told bytes' settings c ≡ told bytes settings c → RowReading bytes' settings c
  over e = subst (λ (d : Rule.RowStep). Gives (side_of c.state.side) d c.step c.first' c.second') (sym e) g

pub call-never-back : CallNeverReachesBack
call-never-back p bytes bytes' settings agree small c g s e k =
    over bytes bytes' settings c g
    (call_same (settings_of settings) bytes bytes' (row_state_of c.state) (both c.first c.second) small (sound-passes bytes' settings c s) p (agree_of agree) (sym (number_is bytes settings c g) ∙ e)
    (⊎_elim (λ w. inl (w.0, (let z : (told bytes settings c).state.at ≤ p = omega (arith, w.1, at-is) in z)))
    (λ w. inr (
      subst (SettledBy p (bits_of bytes) (told bytes settings c).said.mark) at-is (subst (λ (m : ℕ). SettledBy p (bits_of bytes) m c.step.state.at) (ap (λ (a : Answer). a.mark) g.answer) w.0),
      λ x. sym (ap (λ (q : Rule.RowState). q.eols) g.state) ∙ w.1 x,
    )) k))
  where
    at-is : c.step.state.at ≡ (told bytes settings c).state.at
    at-is = ap (λ (q : Rule.RowState). q.at) g.state

module _ (bytes bytes' : List ℕ) (settings : DecodeSettings) (p : Passed bytes settings) (size' : length bytes' ≤ most_bytes) where
  abbrev S : Settings
  S = settings_of settings

  abbrev OwnIn : List ℕ → RowState → List ℕ → List ℕ → List (List ℕ) → List ℕ → Type 0
  OwnIn held st xs ys rows marks = Own S p.wide held (at bytes settings st xs ys rows marks)

  -- the state that a call is handed
  own-handed : (held : List ℕ) (st : RowState) (xs ys : List ℕ) (c : RowCall) → Handed st xs ys c → (rows : List (List ℕ)) (marks : List ℕ) → OwnIn held st xs ys rows marks
      → OwnIn held c.state c.first c.second rows marks
  own-handed held st xs ys c h rows marks o = subst (λ (k : Caller). Own S p.wide held k) (sym (handed-at bytes settings st xs ys c h rows marks)) o

  module _ (n : ℕ) where
    -- the next of the calls
    record Next (k : Caller) : Type 0 where
      to : Caller
      call : call_step S bytes k ≡ more to
      keeps : KeptEols k.state to.state
      inside : to.state.at ≤ n

    next : (cs : List RowCall) (last : RowCall) (st : RowState) (xs ys : List ℕ) → Follows bytes settings st xs ys cs last → number_of last ≡ more_to_come → AllStay cs → EolsStay last
        → last.step.state.at ≤ n → (rows : List (List ℕ)) (marks : List ℕ) → OwnIn bytes st xs ys rows marks → Next (at bytes settings st xs ys rows marks)
    unfolding Follows AllStay
    next [] last st xs ys (h, g) e a k le rows marks o = record {
      to = at bytes settings last.step.state last.first' last.second' (rows ++ changes_of last ∷ []) (marks ++ mark_of last ∷ []);
      call = ap (call_step S bytes) (sym (handed-at bytes settings st xs ys last h rows marks)) ∙ step-more bytes settings last g e rows marks;
      keeps = λ x. k (ap (λ (s : RowState). s.eols) h.0 ∙ x);
      inside = le;
    }
    next (c ∷ cs) last st xs ys (h, g, q, f) e a k le rows marks o =
        let d = at bytes settings c.step.state c.first' c.second' (rows ++ changes_of c ∷ []) (marks ++ mark_of c ∷ []) in
        let od : Own S p.wide bytes d = step-own S p.wide p.narrow bytes p.size (at bytes settings c.state c.first c.second rows marks) d (own-handed bytes st xs ys c h rows marks o) (step-more bytes settings c g q rows marks) in
        let m = next cs last c.step.state c.first' c.second' f e a.1 k le (rows ++ changes_of c ∷ []) (marks ++ mark_of c ∷ []) od in
        record {
          to = d;
          call = ap (call_step S bytes) (sym (handed-at bytes settings st xs ys c h rows marks)) ∙ step-more bytes settings c g q rows marks;
          keeps = λ x. a.0 (ap (λ (s : RowState). s.eols) h.0 ∙ x);
          inside = omega (arith, step-ahead S p.wide p.narrow bytes p.size d m.to od m.call, m.inside);
        }

    -- calls that stand are calls over the other data
    same-along : Agree n (bits_of bytes) (bits_of bytes') → (cs : List RowCall) (last : RowCall) (st : RowState) (xs ys : List ℕ) → Follows bytes settings st xs ys cs last → number_of last ≡ more_to_come
        → AllStay cs → EolsStay last → SettledBy n (bits_of bytes) (mark_of last) last.step.state.at → (rows : List (List ℕ)) (marks : List ℕ) → OwnIn bytes st xs ys rows marks → OwnIn bytes' st xs ys rows marks
        → Follows bytes' settings st xs ys cs last
    unfolding Follows AllStay
    same-along agree [] last st xs ys (h, g) e a k w rows marks o o' = (
      h,
      over bytes bytes' settings last g
          (last-same S p.wide p.narrow bytes p.size bytes' size' (at bytes settings last.state last.first last.second rows marks)
          (at bytes settings last.step.state last.first' last.second' (rows ++ changes_of last ∷ []) (marks ++ mark_of last ∷ []))
          (own-handed bytes st xs ys last h rows marks o) (own-handed bytes' st xs ys last h rows marks o') (step-more bytes settings last g e rows marks) k n
          (subst (λ (m : ℕ). SettledBy n (bits_of bytes) m last.step.state.at) (sym (last_snoc 0 marks (mark_of last))) w) agree).0,
    )
    same-along agree (c ∷ cs) last st xs ys (h, g, q, f) e a k w rows marks o o' =
        let b = at bytes settings c.state c.first c.second rows marks in
        let d = at bytes settings c.step.state c.first' c.second' (rows ++ changes_of c ∷ []) (marks ++ mark_of c ∷ []) in
        let call : call_step S bytes b ≡ more d = step-more bytes settings c g q rows marks in
        let ob = own-handed bytes st xs ys c h rows marks o in
        let od : Own S p.wide bytes d = step-own S p.wide p.narrow bytes p.size b d ob call in
        let m = next cs last c.step.state c.first' c.second' f e a.1 k (settled-inside n (bits_of bytes) (mark_of last) last.step.state.at w) (rows ++ changes_of c ∷ []) (marks ++ mark_of c ∷ []) od in
        let r = followed_same S p.wide p.narrow bytes p.size bytes' size' b d m.to ob (own-handed bytes' st xs ys c h rows marks o') call a.0 m.call m.keeps n
        (omega (arith, step-ahead S p.wide p.narrow bytes p.size d m.to od m.call, m.inside)) m.inside agree in
        (h, over bytes bytes' settings c g r.0, q, same-along agree cs last c.step.state c.first' c.second' f e a.1 k w (rows ++ changes_of c ∷ []) (marks ++ mark_of c ∷ []) od r.1)

  -- in Group 4, and strict or exact, all calls that give a row stand
  sure-along : SureFor settings → (cs : List RowCall) (last : RowCall) (st : RowState) (xs ys : List ℕ) → Follows bytes settings st xs ys cs last → number_of last ≡ more_to_come
      → (rows : List (List ℕ)) (marks : List ℕ) → OwnIn bytes st xs ys rows marks → Begun (between (row_state_of st) (both xs ys)) → AllStay cs × EolsStay last × WasRead (mark_of last)
  unfolding Follows AllStay
  sure-along sure [] last st xs ys (h, g) e rows marks o b =
      let s = sure-gave S p.wide p.narrow bytes p.size sure (at bytes settings last.state last.first last.second rows marks)
      (at bytes settings last.step.state last.first' last.second' (rows ++ changes_of last ∷ []) (marks ++ mark_of last ∷ []))
      (own-handed bytes st xs ys last h rows marks o) (λ z. ap (λ (x : RowState). x.eols) h.0 ∙ b (sym (ap (λ (x : RowState). x.rows) h.0) ∙ z)) (step-more bytes settings last g e rows marks) in
      (tt, s.0, subst WasRead (last_snoc 0 marks (mark_of last)) s.1)
  sure-along sure (c ∷ cs) last st xs ys (h, g, q, f) e rows marks o b =
      let s = sure-gave S p.wide p.narrow bytes p.size sure (at bytes settings c.state c.first c.second rows marks)
      (at bytes settings c.step.state c.first' c.second' (rows ++ changes_of c ∷ []) (marks ++ mark_of c ∷ []))
      (own-handed bytes st xs ys c h rows marks o) (λ z. ap (λ (x : RowState). x.eols) h.0 ∙ b (sym (ap (λ (x : RowState). x.rows) h.0) ∙ z)) (step-more bytes settings c g q rows marks) in
      let t = sure-along sure cs last c.step.state c.first' c.second' f e (rows ++ changes_of c ∷ []) (marks ++ mark_of c ∷ []) s.2 s.3 in
      ((s.0, t.0), t.1, t.2)

pub damage-never-back : DamageNeverReachesBack
damage-never-back n bytes bytes' settings agree small first second given last f e k = record {
  start = f.start;
  is_start = f.is_start;
  follows = same-along bytes bytes' settings p small n (agree_of agree) given last f.start first second f.follows e stand.0 stand.1 stand.2 [] [] (own bytes) (own bytes');
}
  where
    p : Passed bytes settings
    p = passed bytes settings last (last-reads bytes settings given last f.start first second f.follows) e

    own : (held : List ℕ) → OwnIn bytes bytes' settings p small held f.start first second [] []
    own held =
        subst (λ (c : Caller). Own (settings_of settings) p.wide held c) (λ i. record { state = sym f.is_start i; arrays = both first second; rows = []; marks = [] })
        (own-start (settings_of settings) p.wide held (both first second))

    stand : AllStay given × EolsStay last × SettledBy n (bits_of bytes) (mark_of last) last.step.state.at
    stand = ⊎_elim
        (λ s.
        let r = sure-along bytes bytes' settings p small s.0 given last f.start first second f.follows e [] [] (own bytes) (λ z. ap (λ (s : Rule.RowState). s.eols) f.is_start) in
        (r.0, r.1, inl (r.2, s.1)))
        (λ r. (r.stay, r.stays, r.settled)) k

-- ---- The page form

-- a page that kept a row, or is answered with a number from 1 to 3, was read
module _ (S : Settings) (bytes : List ℕ) (store places : ℕ) where
  kept_read : 0 < length (decode S bytes store places).rows → Allowed S bytes
  kept_read = decode-cases S bytes (λ f. 0 < length (f store places).rows → Allowed S bytes) (λ n r h. absurd (omega arith)) (λ a h. a)

-- rows that are the first of both answers
module _ (c d : Call) (a b : Rules.Answer) (bytes bytes' : List ℕ) (settings : DecodeSettings) (g : Reading bytes settings c) (g' : Reading bytes' settings d)
    (is : answer_in bytes settings c ≡ a) (is' : answer_in bytes' settings d ≡ b) where
  first-of : (n : ℕ) (rows : List (List ℕ)) (marks : List ℕ) → length rows ≡ n → length marks ≡ n
      → ((rest : List (List ℕ)) × (a.rows ≡ rows ++ rest) × (later : List ℕ) × (a.marks ≡ marks ++ later))
      → ((rest : List (List ℕ)) × (b.rows ≡ rows ++ rest) × (later : List ℕ) × (b.marks ≡ marks ++ later))
      → SameFirst n c d
  first-of n rows marks l m (rest, x, later, y) (rest', x', later', y') = record {
    many = omega (arith, ap length (sym (rows_are (answer_in bytes settings c) c g) ∙ there), counted, length-append rows rest, l);
    many' = omega (arith, counted', length-append rows rest', l);
    rows = ap (take n) there' ∙ take_at rows rest' n l ∙ sym (ap (take n) there ∙ take_at rows rest n l);
    marks = ap (take n) marked' ∙ take_at marks later' n m ∙ sym (ap (take n) marked ∙ take_at marks later n m);
  }
    where
      there : rows_of c ≡ rows ++ rest
      there = rows_are (answer_in bytes settings c) c g ∙ ap (λ (z : Rules.Answer). z.rows) is ∙ x

      there' : rows_of d ≡ rows ++ rest'
      there' = rows_are (answer_in bytes' settings d) d g' ∙ ap (λ (z : Rules.Answer). z.rows) is' ∙ x'

      marked : marks_of c ≡ marks ++ later
      marked = marks_are (answer_in bytes settings c) c g (as_many bytes settings c) ∙ ap (λ (z : Rules.Answer). z.marks) is ∙ y

      marked' : marks_of d ≡ marks ++ later'
      marked' = marks_are (answer_in bytes' settings d) d g' (as_many bytes' settings d) ∙ ap (λ (z : Rules.Answer). z.marks) is' ∙ y'

      counted : c.answer.rows ≡ length (rows ++ rest)
      counted = ap (λ (z : Answer). z.rows) g.answer ∙ ap length (ap (λ (z : Rules.Answer). z.rows) is ∙ x)

      counted' : d.answer.rows ≡ length (rows ++ rest')
      counted' = ap (λ (z : Answer). z.rows) g'.answer ∙ ap length (ap (λ (z : Rules.Answer). z.rows) is' ∙ x')

-- one step, and a run of one
module _ (S : Settings) (wide : 0 < S.columns) (bytes : List ℕ) (store places : ℕ) where
  abbrev step : Kept → Out Kept Rules.Answer
  step = page_step (row_of S.encoding S (bits_of bytes)) store places

  one-step : (k : Kept) → step none_kept ≡ more k → run step 1 none_kept ≡ more k
  unfolding run
  one-step k e = rw e

  step-one : (k : Kept) → run step 1 none_kept ≡ more k → step none_kept ≡ more k
  unfolding run
  step-one k = cases (step none_kept)
    where
      cases : (o : Out Kept Rules.Answer) → and_then o (run step 0) ≡ more k → o ≡ more k
      cases (more j) e = e
      cases (done a) e = e

pub page-never-back : PageNeverReachesBack
unfolding run
page-never-back p bytes bytes' settings small-columns agree small' c d g g' room zero le k q s =
    record { many = omega arith; many' = omega arith; rows = refl; marks = refl }
page-never-back p bytes bytes' settings small-columns agree small' c d g g' room (suc n) le k q s =
    first-of c d (answer_in bytes settings c) (decode S bytes' store spots) bytes bytes' settings g g' refl (λ i. decode S bytes' (room.changes i) (room.places i))
    (suc n) k.rows k.marks counted.0 counted.1 both-front.0 both-front.1
  where
    S : Settings
    S = settings_of settings

    store : ℕ
    store = length c.changes

    spots : ℕ
    spots = places c

    allowed : Allowed S bytes
    allowed = kept_read S bytes store spots (omega (arith, le, ap (λ (z : Answer). z.rows) g.answer))

    narrow : S.columns < most_pixels
    narrow = let z : S.columns ≡ most_pixels → ⊥ = allowed.narrow in omega arith

    counted : (length k.rows ≡ suc n) × (length k.marks ≡ suc n)
    counted = let r = kept-counted S.encoding (read_as settings) allowed.wide (bits_of bytes) (whole-bytes bytes) store spots (suc n) none_kept k q in (omega (arith, r.0), omega (arith, r.1))

    stands : Stands (SettledIn p (bits_of bytes)) (row_of S.encoding (strict_if_exact S) (bits_of bytes)) store spots none_kept k
    stands = ⊎_elim
        (λ x. stands-as p (λ mark next i w. inl (w, i)) x.1 (sure-stands S.encoding (strict_if_exact S) allowed.wide (bits_of bytes) (whole-bytes bytes) store spots x.0 n k q))
        (λ r. read-stands S.encoding (strict_if_exact S) allowed.wide (bits_of bytes) (whole-bytes bytes) store spots (SettledIn p (bits_of bytes)) k r.settled n
        (λ f e. r.stays f (one-step (read_as settings) allowed.wide bytes store spots f e)) q) s

    both-front : Fronts k (decode S bytes store spots) × Fronts k (decode S bytes' store spots)
    both-front = never_back S allowed.wide narrow store spots bytes bytes' allowed.small small' p (agree_of agree) k stands

-- what a call that answers 1, 2 or 3 tells
module _ (bytes : List ℕ) (settings : DecodeSettings) (small-columns : settings.columns ≤ most_pixels) (c : Call) (g : Reading bytes settings c) (i : 1 ≤ c.answer.number) (j : c.answer.number ≤ 3) where
  answered : c.answer.number ≡ (answer_in bytes settings c).number
  answered = ap (λ (z : Answer). z.number) g.answer

  was_read : Allowed (settings_of settings) bytes
  was_read =
      decode-cases (settings_of settings) bytes (λ f. 1 ≤ (f (length c.changes) (places c)).number → (f (length c.changes) (places c)).number ≤ 3 → Allowed (settings_of settings) bytes)
      (λ n r x y. refused-number n r x y) (λ z x y. z) (omega (arith, i, answered)) (omega (arith, j, answered))
    where
      refused-number : (n : ℕ) → Refuses (settings_of settings) bytes n → 1 ≤ n → n ≤ 3 → Allowed (settings_of settings) bytes
      refused-number n (too_wide e) x y = absurd (omega arith)
      refused-number n (too_long e) x y = absurd (omega arith)
      refused-number n (without_columns e) x y = absurd (omega arith)

  not_widest : settings.columns < most_pixels
  not_widest = let z : settings.columns ≡ most_pixels → ⊥ = was_read.narrow in omega arith

-- its rows, where the rules say that they are the first of the other answer's
module _ (bytes bytes' : List ℕ) (settings : DecodeSettings) (c d : Call) (g : Reading bytes settings c) (g' : Reading bytes' settings d) (room : SameRoom c d) where
  all_first : ((rest : List (List ℕ)) × ((decode (settings_of settings) bytes' (length c.changes) (places c)).rows ≡ (answer_in bytes settings c).rows ++ rest)
      × (later : List ℕ) × ((decode (settings_of settings) bytes' (length c.changes) (places c)).marks ≡ (answer_in bytes settings c).marks ++ later))
      → SameFirst c.answer.rows c d
  all_first told =
      first-of c d a (decode (settings_of settings) bytes' (length c.changes) (places c)) bytes bytes' settings g g' refl (λ i. decode (settings_of settings) bytes' (room.changes i) (room.places i))
      c.answer.rows a.rows a.marks (sym (ap (λ (z : Answer). z.rows) g.answer)) (as_many bytes settings c ∙ sym (ap (λ (z : Answer). z.rows) g.answer))
      ([], sym (append-nil a.rows), [], sym (append-nil a.marks)) told
    where
      a : Rules.Answer
      a = answer_in bytes settings c

pub refused-rows-stand : RefusedRowsStand
refused-rows-stand bytes bytes' settings small-columns sure c d g g' room i j agree small' =
    let w = was_read bytes settings small-columns c g i j in
    let n = answered bytes settings small-columns c g i j in
    all_first bytes bytes' settings c d g g' room
    (decode-refused (settings_of settings) w.wide (not_widest bytes settings small-columns c g i j) bytes bytes' w.small small' (length c.changes) (places c) sure (omega (arith, i, n)) (omega (arith, j, n))
    (subst (λ (p : ℕ). Agree p (bits_of bytes) (bits_of bytes')) (ap (λ (z : Answer). z.place) g.answer) (agree_of agree)))

-- ---- The page form that is watched

pub sure-gives-none-up : SureGivesNoneUp
sure-gives-none-up bytes settings c gave w s = w.gave_up ∙ sure-gave-none (settings_of settings) bytes (length c.changes) (places c) s

pub watched-never-back : WatchedNeverReachesBack
watched-never-back p bytes bytes' settings small-columns agree small' c d w g' room zero le k q s =
    record { many = omega arith; many' = omega arith; rows = refl; marks = refl }
watched-never-back p bytes bytes' settings small-columns agree small' c d w g' room (suc n) le k q s =
    page-never-back p bytes bytes' settings small-columns agree small' c d w.decodes g' room (suc n) le k q (inr (record { settled = s; stays = stays }))
  where
    S : Settings
    S = settings_of settings

    many : suc n ≤ length (decode S bytes (length c.changes) (places c)).rows
    many = omega (arith, le, ap (λ (z : Answer). z.rows) w.decodes.answer)

    allowed : Allowed S bytes
    allowed = kept_read S bytes (length c.changes) (places c) (omega (arith, many))

    stays : (first : Kept) → Reaches bytes settings c 1 first → KeepsEols first.state.eols k.state.eols
    stays f e =
        none-gave-stays S allowed.wide bytes (length c.changes) (places c) (sym w.gave_up) n k many q f
        (step-one (read_as settings) allowed.wide bytes (length c.changes) (places c) f e)

pub watched-refused-rows-stand : WatchedRefusedRowsStand
watched-refused-rows-stand bytes bytes' settings small-columns c d v g' room i j read agree small' =
    let g = v.decodes in
    let w = was_read bytes settings small-columns c g i j in
    let n = answered bytes settings small-columns c g i j in
    all_first bytes bytes' settings c d g g' room
    (decode-watched-refused (settings_of settings) w.wide (not_widest bytes settings small-columns c g i j) bytes bytes' w.small small' (length c.changes) (places c) (sym v.gave_up)
    (subst (λ (m : List ℕ). WasRead (last_or 0 m)) (marks_are (answer_in bytes settings c) c g (as_many bytes settings c)) read) (omega (arith, i, n)) (omega (arith, j, n))
    (subst (λ (p : ℕ). Agree p (bits_of bytes) (bits_of bytes')) (ap (λ (z : Answer). z.place) g.answer) (agree_of agree)))

pub only-without-eols : OnlyWithoutEols
only-without-eols bytes settings small-columns c gave v group3 lenient i j =
    let g = v.decodes in
    let w = was_read bytes settings small-columns c g i j in
    let n = answered bytes settings small-columns c g i j in
    ⊎_elim inl (⊎_elim (λ e. inr (inl (v.gave_up ∙ e)))
    (λ (k, q, e). inr (inr (k, subst (λ (m : ℕ). Reaches bytes settings c m k) (sym (ap (λ (z : Answer). z.rows) g.answer)) q, e))))
    (decode-lost (settings_of settings) w.wide (not_widest bytes settings small-columns c g i j) bytes w.small (length c.changes) (places c) lenient group3 (omega (arith, i, n)) (omega (arith, j, n)))
