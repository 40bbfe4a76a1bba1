-- Damage never reaches back, called row by row: a call that stands says the same, hands the same state back and leaves the same arrays over any other data that agree with these up to
-- the bit of its state. Assumes nothing.
use mathlib.Core.Path.{◌≡◌, refl, sym, ap, ◌∙◌, subst}
use mathlib.Core.Bool.{Bool, true, false}
use mathlib.Core.Logic.{◌⊎◌, inl, ⊎_elim}
use mathlib.Core.List.{List, [], ◌∷◌, ◌++◌}
use Prim.Native.Nat.{ℕ, zero, suc, ◌+◌, ◌*◌, ◌≤◌, ◌<◌}
use native.Mathlib.Omega.{arith}
use lib.Dec.{eqb, leb}
use lib.ListN.{length, length-append}
use borrow.Author.Tests.{leb-true}
use Rattle.rules.specs.Machine.{Out, more, done, and_then, run}
use Rattle.rules.specs.Bits.{bits_of}
use Rattle.rules.specs.Rows.{Encoding, group4, group3_1_d, group3_2_d, Settings, State, RowOut, row, stop}
use Rattle.rules.specs.Group3.{untagged, tagged}
use Rattle.rules.specs.Pages.{row_of, strict_if_exact, most_bytes, is_too_wide}
use Rattle.rules.specs.Answers.{more_to_come}
use Rattle.rules.specs.ByRow.{Arrays, unended, RowState, between, room_in, reference_in, RowStep, after_row, sound, unless_few, row_here, unless_ended, read_row, Caller, caller_with, Over, does_go_on, call_step}
use Rattle.rules.specs.Standing.{WasRead, SettledBy, KeepsEols, Sure, last_or}
use Rattle.rules.proofs.Bits.{length-bits_of, both_true}
use Rattle.rules.proofs.Agree.{Agree, agree_less}
use Rattle.rules.proofs.Budget.{whole-bytes}
use Rattle.rules.proofs.ByRow.{few-cases, call-cases, Bounded, row-bounded, Own, own-start, row_in, given, between-given, own-next, tests-pass, own-reads, call-gives, call_ends}
use Rattle.rules.proofs.Untouched.{Keeps, row4-same, row_same}
use Rattle.rules.proofs.Standing.{row-ahead, followed3, row-settles, Begun, row_settled, row_sure, last_snoc}

-- the state that a call hands back expects EOLs if the state before did
abbrev pub KeptEols : RowState → RowState → Type 0
KeptEols p q = KeepsEols p.eols q.eols

-- ---- One call, with any state and any arrays

module _ (S : Settings) (bytes bytes' : List ℕ) (p : RowState) (xs : Arrays) (size : length bytes' ≤ most_bytes) (sound' : sound S bytes' p xs ≡ true) where
  module _ (n : ℕ) (agree : Agree n (bits_of bytes) (bits_of bytes')) where
    abbrev Same : RowStep → Type 0
    Same d =
        d.said.number ≡ more_to_come
        → (Sure S.encoding (strict_if_exact S) × (d.state.at ≤ n)) ⊎ (SettledBy n (bits_of bytes) d.said.mark d.state.at × KeptEols p d.state)
        → read_row S bytes' p xs ≡ d

    -- Damage never reaches back: a call that gives a row, in Group 4 or strictly; or one that hangs on the first n bits, with EOLs still expected if they were.
    pub call_same : Same (read_row S bytes p xs)
    unfolding read_row sound
    call_same = call-cases S bytes p xs Same
        (λ n place b loose e h k. rw (e, read_row))
        (λ u e h. absurd (omega arith))
        (λ u e f h. absurd (omega arith))
        (λ u e f g h. absurd (omega arith))
        (λ u e f g c h. absurd (omega arith))
        (λ u e f g c o q. rows u e f g c o q)
      where
        rows : p.end ≡ unended → is_too_wide S.columns ≡ false → length bytes ≤ most_bytes → sound S bytes p xs ≡ true → 0 < S.columns → (o : RowOut) → row_here S bytes p xs ≡ o → Same (after_row p xs (unless_few S bytes p xs o))
        rows u e f g c (row r mark next) q = λ h k.
            let s : row_here S bytes' p xs ≡ row r mark next = ⊎_elim
            (λ s. row_same (strict_if_exact S) c (bits_of bytes) (bits_of bytes') (room_in p xs) (between p xs) r mark next (agree_less next.at s.1 agree) S.encoding
            (row_settled (strict_if_exact S) c (bits_of bytes) (room_in p xs) (between p xs) r mark next S.encoding s.0 q) q)
            (λ w. row-settles (strict_if_exact S) c (bits_of bytes) (bits_of bytes') (whole-bytes bytes) 0 0 n agree S.encoding (room_in p xs) (between p xs) r mark next w.0 w.1 q) k in
            ap (unless_ended S bytes' p xs) u ∙ tests-pass S c bytes' e size p xs sound' ∙ ap (λ (o : RowOut). after_row p xs (unless_few S bytes' p xs o)) s
        rows u e f g c (stop m place b loose) q =
            let i : p.at ≤ length (bits_of bytes) = omega (arith, leb-true p.at (8 * length bytes) (both_true (leb p.at (8 * length bytes)) _ g).0, length-bits_of bytes) in
            let l = subst (Bounded (bits_of bytes)) q (row-bounded (strict_if_exact S) c (bits_of bytes) (whole-bytes bytes) (room_in p xs) (between p xs) i S.encoding) in
            few-cases S bytes p xs m place b loose (λ w. Same (after_row p xs w)) (λ h. absurd (omega arith)) (λ h. absurd (omega (arith, l)))

-- ---- Calls, one after another

-- from one caller to another by a call or more, each of which gave a row and kept EOLs, and of which the last one's was read
pub data CallsStand (S : Settings) (bytes : List ℕ) : Caller → Caller → Type 0 where
  last-call : {c d : Caller} → call_step S bytes c ≡ more d → KeptEols c.state d.state → WasRead (last_or 0 d.marks) → CallsStand S bytes c d
  call-then : {c d e : Caller} → call_step S bytes c ≡ more d → KeptEols c.state d.state → CallsStand S bytes d e → CallsStand S bytes c e

module _ (T : Settings) (wide : 0 < T.columns) (bytes : List ℕ) (cs : List Bool) where
  -- a row that another follows, in any rooms
  follows-any : (enc : Encoding) (room room' : ℕ) (st : State) (r r' : List ℕ) (mark mark' : ℕ) (next next' : State) (n : ℕ) → row_of enc T (bits_of bytes) room st ≡ row r mark next → Keeps st next
      → row_of enc T (bits_of bytes) room' next ≡ row r' mark' next' → Keeps next next' → next.at ≤ n → next'.at ≤ n → Agree n (bits_of bytes) cs → row_of enc T cs room st ≡ row r mark next
  unfolding row_of
  follows-any group4 = λ room room' st r r' mark mark' next next' n e q e' q' h h' a. row4-same T wide (bits_of bytes) cs room st r mark next (agree_less next.at h a) e
  follows-any group3_1_d = followed3 T wide (bits_of bytes) cs (whole-bytes bytes) 0 0 untagged
  follows-any group3_2_d = followed3 T wide (bits_of bytes) cs (whole-bytes bytes) 0 0 tagged

module _ (S : Settings) (wide : 0 < S.columns) (narrow : is_too_wide S.columns ≡ false) where
  module _ (bytes : List ℕ) (size : length bytes ≤ most_bytes) where
    -- a call that gave a row read it
    record Gave (c d : Caller) : Type 0 where
      r : List ℕ
      mark : ℕ
      next : State
      read : row_in S wide bytes c ≡ row r mark next
      is : given S wide bytes c r mark next ≡ d

    gave : (c d : Caller) → Own S wide bytes c → call_step S bytes c ≡ more d → Gave c d
    gave c d o e = cases (row_in S wide bytes c) refl
      where
        cases : (x : RowOut) → row_in S wide bytes c ≡ x → Gave c d
        cases (row r mark next) q =
            let f = call-gives S wide bytes narrow size c o r mark next q in
            record { r = r; mark = mark; next = next; read = q; is = let y : given S wide bytes c r mark next ≡ d = cc in y }
        cases (stop n place b loose) q =
            let f = call_ends S wide bytes narrow size c o n place b loose q in
            absurd (let y : ◌≡◌ {A = ℕ} 0 1 = cc in omega arith)

    own-gave : (c d : Caller) (o : Own S wide bytes c) (g : Gave c d) → Own S wide bytes d
    own-gave c d o g = subst (Own S wide bytes) g.is (own-next S wide bytes c o g.r g.mark g.next g.read)

    -- so the state behind it is the form's own, and the reader moves on
    pub step-own : (c d : Caller) → Own S wide bytes c → call_step S bytes c ≡ more d → Own S wide bytes d
    step-own c d o q = own-gave c d o (gave c d o q)

    gave-ahead : (c d : Caller) → Gave c d → c.state.at ≤ d.state.at
    gave-ahead c d g =
        let h = row-ahead S.encoding (strict_if_exact S) wide (bits_of bytes) (whole-bytes bytes) 0 0 (room_in c.state c.arrays) (between c.state c.arrays) g.r g.mark g.next g.read in
        omega (arith, h, ap (λ (x : Caller). x.state.at) g.is)

    pub step-ahead : (c d : Caller) → Own S wide bytes c → call_step S bytes c ≡ more d → c.state.at ≤ d.state.at
    step-ahead c d o q = gave-ahead c d (gave c d o q)

    calls-ahead : {c e : Caller} → CallsStand S bytes c e → Own S wide bytes c → c.state.at ≤ e.state.at
    calls-ahead {c} {e} (last-call q k w) o = gave-ahead c e (gave c e o q)
    calls-ahead {c} {e} (call-then {d = d} q k s) o = let g = gave c d o q in omega (arith, gave-ahead c d g, calls-ahead s (own-gave c d o g))

    -- the first of the calls
    record First (d e : Caller) : Type 0 where
      to : Caller
      call : call_step S bytes d ≡ more to
      keeps : KeptEols d.state to.state
      ahead : to.state.at ≤ e.state.at

    first-call : {d e : Caller} → CallsStand S bytes d e → Own S wide bytes d → First d e
    first-call {d} {e} (last-call q k w) o = record { to = e; call = q; keeps = k; ahead = omega arith }
    first-call {d} {e} (call-then {d = f} q k s) o = record { to = f; call = q; keeps = k; ahead = calls-ahead s (own-gave d f o (gave d f o q)) }

    module _ (bytes' : List ℕ) (size' : length bytes' ≤ most_bytes) where
      abbrev cs : List Bool
      cs = bits_of bytes'

      -- the same call over the other data
      abbrev SameCall : Caller → Type 0
      SameCall c = read_row S bytes' c.state c.arrays ≡ read_row S bytes c.state c.arrays

      same_step : (c : Caller) → SameCall c → call_step S bytes' c ≡ call_step S bytes c
      unfolding call_step
      same_step c e = ap (λ (d : RowStep). does_go_on c d (eqb d.said.number more_to_come)) e

      call-over : (c d : Caller) → Own S wide bytes c → Own S wide bytes' c → (g : Gave c d) → row_in S wide bytes' c ≡ row g.r g.mark g.next → SameCall c × Own S wide bytes' d
      call-over c d o o' g e = (
        own-reads S wide bytes' narrow size' c o' ∙ ap (λ (w : RowOut). after_row c.state c.arrays (unless_few S bytes' c.state c.arrays w)) e
            ∙ sym (own-reads S wide bytes narrow size c o ∙ ap (λ (w : RowOut). after_row c.state c.arrays (unless_few S bytes c.state c.arrays w)) g.read),
        subst (Own S wide bytes') g.is (own-next S wide bytes' c o' g.r g.mark g.next e),
      )

      -- one whose row hangs on the first n bits
      pub last-same : (c d : Caller) → Own S wide bytes c → Own S wide bytes' c → call_step S bytes c ≡ more d → KeptEols c.state d.state
          → (n : ℕ) → SettledBy n (bits_of bytes) (last_or 0 d.marks) d.state.at → Agree n (bits_of bytes) cs → SameCall c × Own S wide bytes' d
      last-same c d o o' q k n w a =
          let g = gave c d o q in
          let l : last_or 0 d.marks ≡ g.mark = ap (λ (x : Caller). last_or 0 x.marks) (sym g.is) ∙ last_snoc 0 c.marks g.mark in
          let s = row-settles (strict_if_exact S) wide (bits_of bytes) cs (whole-bytes bytes) 0 0 n a S.encoding (room_in c.state c.arrays) (between c.state c.arrays) g.r g.mark g.next
          (subst (λ (x : Caller). SettledBy n (bits_of bytes) g.mark x.state.at) (sym g.is) (subst (λ (m : ℕ). SettledBy n (bits_of bytes) m d.state.at) l w))
          (subst (λ (x : Caller). KeptEols c.state x.state) (sym g.is) k) g.read in
          call-over c d o o' g s

      -- one that another follows
      pub followed_same : (c d e : Caller) → Own S wide bytes c → Own S wide bytes' c → call_step S bytes c ≡ more d → KeptEols c.state d.state → call_step S bytes d ≡ more e → KeptEols d.state e.state
          → (n : ℕ) → d.state.at ≤ n → e.state.at ≤ n → Agree n (bits_of bytes) cs → SameCall c × Own S wide bytes' d
      followed_same c d e o o' q k q' k' n h h' a =
          let g = gave c d o q in
          let od = own-gave c d o g in
          let f = gave d e od q' in
          let between_is : between d.state d.arrays ≡ g.next = subst (λ (x : Caller). between x.state x.arrays ≡ g.next) g.is (between-given S wide bytes c o g.r g.mark g.next g.read) in
          let second : row_of S.encoding (strict_if_exact S) (bits_of bytes) (room_in d.state d.arrays) g.next ≡ row f.r f.mark f.next
          = ap (row_of S.encoding (strict_if_exact S) (bits_of bytes) (room_in d.state d.arrays)) (sym between_is) ∙ f.read in
          let keeps : Keeps g.next f.next = λ x. ap (λ (i : Caller). i.state.eols) f.is ∙ k' (ap (λ (i : Caller). i.state.eols) (sym g.is) ∙ x) in
          let r = follows-any (strict_if_exact S) wide bytes cs S.encoding (room_in c.state c.arrays) (room_in d.state d.arrays) (between c.state c.arrays) g.r f.r g.mark f.mark g.next f.next n
          g.read (subst (λ (x : Caller). KeptEols c.state x.state) (sym g.is) k) second keeps
          (omega (arith, ap (λ (x : Caller). x.state.at) g.is)) (omega (arith, ap (λ (x : Caller). x.state.at) f.is)) a in
          call-over c d o o' g r

      -- Damage never reaches back: calls that stand, over other data that agree with these up to the bit of the last state.
      pub calls_same : {c e : Caller} → CallsStand S bytes c e → Own S wide bytes c → Own S wide bytes' c → Agree e.state.at (bits_of bytes) cs → CallsStand S bytes' c e
      calls_same {c} {e} (last-call q k w) o o' a = last-call (same_step c (last-same c e o o' q k e.state.at (inl (w, omega arith)) a).0 ∙ q) k w
      calls_same {c} {e} (call-then {d = d} q k s) o o' a =
          let od = own-gave c d o (gave c d o q) in
          let f = first-call s od in
          let n = followed_same c d f.to o o' q k f.call f.keeps e.state.at (calls-ahead s od) f.ahead a in
          call-then (same_step c n.0 ∙ q) k (calls_same s od n.1 a)

      -- from a page's start
      pub calls-from : (xs : Arrays) (e : Caller) → CallsStand S bytes (caller_with xs) e → Agree e.state.at (bits_of bytes) cs → CallsStand S bytes' (caller_with xs) e
      calls-from xs e s a = calls_same s (own-start S wide bytes xs) (own-start S wide bytes' xs) a

    -- In Group 4 and in what is read strictly all calls that gave a row stand.
    pub sure-gave : Sure S.encoding (strict_if_exact S) → (c d : Caller) → Own S wide bytes c → Begun (between c.state c.arrays) → call_step S bytes c ≡ more d
        → KeptEols c.state d.state × WasRead (last_or 0 d.marks) × Own S wide bytes d × Begun (between d.state d.arrays)
    sure-gave sure c d o b q =
        let g = gave c d o q in
        let f = row_sure (strict_if_exact S) wide (bits_of bytes) (room_in c.state c.arrays) (between c.state c.arrays) g.r g.mark g.next S.encoding sure b g.read in
        let l : last_or 0 d.marks ≡ g.mark = ap (λ (x : Caller). last_or 0 x.marks) (sym g.is) ∙ last_snoc 0 c.marks g.mark in
        let counted : suc c.state.rows ≡ d.state.rows = ap (λ (x : Caller). x.state.rows) g.is in
        (subst (λ (x : Caller). KeptEols c.state x.state) g.is f.0, subst WasRead (sym l) f.1, own-gave c d o g, λ z. absurd (omega arith))

    pub sure-calls : Sure S.encoding (strict_if_exact S) → (n : ℕ) (c e : Caller) → Own S wide bytes c → Begun (between c.state c.arrays) → run (call_step S bytes) (suc n) c ≡ more e → CallsStand S bytes c e
    unfolding run
    sure-calls sure zero c e o b q = cases (call_step S bytes c) refl q
      where
        cases : (x : Out Caller Over) → call_step S bytes c ≡ x → and_then x (run (call_step S bytes) 0) ≡ more e → CallsStand S bytes c e
        cases (more d) f g = let y : d ≡ e = cc in let h = f ∙ ap (λ (x : Caller). more x) y in let k = sure-gave sure c e o b h in last-call h k.0 k.1
        cases (done a) f g = absurd (let y : ◌≡◌ {A = ℕ} 0 1 = cc in omega arith)
    sure-calls sure (suc n) c e o b q = cases (call_step S bytes c) refl q (sure-calls sure n)
      where
        cases : (x : Out Caller Over) → call_step S bytes c ≡ x → and_then x (run (call_step S bytes) (suc n)) ≡ more e
            → ((d e : Caller) → Own S wide bytes d → Begun (between d.state d.arrays) → run (call_step S bytes) (suc n) d ≡ more e → CallsStand S bytes d e) → CallsStand S bytes c e
        cases (more d) f g ih = let k = sure-gave sure c d o b f in call-then f k.0 (ih d e k.2 k.3 g)
        cases (done a) f g ih = absurd (let y : ◌≡◌ {A = ℕ} 0 1 = cc in omega arith)

    -- each call gives a row
    step-rows : (c d : Caller) → call_step S bytes c ≡ more d → length d.rows ≡ suc (length c.rows)
    unfolding call_step
    step-rows c d = tests (read_row S bytes c.state c.arrays) (eqb (read_row S bytes c.state c.arrays).said.number more_to_come)
      where
        tests : (x : RowStep) (b : Bool) → does_go_on c x b ≡ more d → length d.rows ≡ suc (length c.rows)
        tests x true e =
            let y : c.rows ++ reference_in x.state x.arrays ∷ [] ≡ d.rows = cc in
            omega (arith, ap length y, length-append c.rows (reference_in x.state x.arrays ∷ []))
        tests x false e = absurd (let z : ◌≡◌ {A = ℕ} 0 1 = cc in omega arith)

    run-rows : (n : ℕ) (c e : Caller) → run (call_step S bytes) n c ≡ more e → length e.rows ≡ length c.rows + n
    unfolding run
    run-rows zero c e = λ q. let y : c ≡ e = cc in omega (arith, ap (λ (x : Caller). length x.rows) y)
    run-rows (suc n) c e = cases (call_step S bytes c) refl (λ d. run-rows n d e)
      where
        cases : (x : Out Caller Over) → call_step S bytes c ≡ x → ((d : Caller) → run (call_step S bytes) n d ≡ more e → length e.rows ≡ length d.rows + n) → and_then x (run (call_step S bytes) n) ≡ more e
            → length e.rows ≡ length c.rows + suc n
        cases (more d) f ih g = omega (arith, ih d g, step-rows c d f)
        cases (done a) f ih g = absurd (let z : ◌≡◌ {A = ℕ} 0 1 = cc in omega arith)

    -- calls that stand are calls
    pub stand-run : {c e : Caller} → CallsStand S bytes c e → (n : ℕ) × (run (call_step S bytes) (suc n) c ≡ more e)
    unfolding run
    stand-run (last-call q k w) = (0, rw q)
    stand-run (call-then q k s) = let r = stand-run s in (suc r.0, rw q r.1)

-- ---- In one statement

module _ (S : Settings) (wide : 0 < S.columns) (narrow : is_too_wide S.columns ≡ false) (bytes bytes' : List ℕ) (size : length bytes ≤ most_bytes) (size' : length bytes' ≤ most_bytes) (p : ℕ) (agree : Agree p (bits_of bytes) (bits_of bytes')) where
  -- Damage never reaches back, called row by row: calls that stand with a last state at or before the bit up to which the data agree lead to the same caller, state, arrays, rows and marks, in as many calls.
  pub never-back-calls : (xs : Arrays) (e : Caller) → CallsStand S bytes (caller_with xs) e → e.state.at ≤ p → (n : ℕ) → run (call_step S bytes) n (caller_with xs) ≡ more e → run (call_step S bytes') n (caller_with xs) ≡ more e
  never-back-calls xs e s h n q =
      let r = stand-run S wide narrow bytes' size' (calls-from S wide narrow bytes size bytes' size' xs e s (agree_less e.state.at h agree)) in
      let same : suc r.0 ≡ n = omega (arith, run-rows S wide narrow bytes' size' (suc r.0) (caller_with xs) e r.1, run-rows S wide narrow bytes size n (caller_with xs) e q) in
      subst (λ (m : ℕ). run (call_step S bytes') m (caller_with xs) ≡ more e) same r.1

  -- In Group 4, and strict or exact in any encoding, all calls that gave a row.
  pub never-back-sure : Sure S.encoding (strict_if_exact S) → (xs : Arrays) (e : Caller) → e.state.at ≤ p → (n : ℕ) → run (call_step S bytes) n (caller_with xs) ≡ more e → run (call_step S bytes') n (caller_with xs) ≡ more e
  unfolding run
  never-back-sure sure xs e h zero q = q
  never-back-sure sure xs e h (suc n) q = never-back-calls xs e (sure-calls S wide narrow bytes size sure n (caller_with xs) e (own-start S wide bytes xs) (λ z. refl) q) h (suc n) q
