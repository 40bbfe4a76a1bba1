-- Damage never reaches back: what is read before a bit stands, whatever the data are from there on. A line that is read begins with a one soon, so the EOLs before it end
-- before its own bits do. Assumes nothing.
use mathlib.Core.Path.{◌≡◌, refl, sym, ap, ap₂, ◌∙◌, subst}
use mathlib.Core.Bool.{Bool, true, false, cond, not, ◌&&◌, ◌||◌}
use mathlib.Core.List.{List, [], ◌∷◌, ◌++◌, append_assoc}
use mathlib.Core.Option.{Option, none, some}
use Prim.Native.Nat.{ℕ, zero, suc, ◌+◌, ◌≤◌, ◌<◌}
use native.Mathlib.Omega.{arith}
use lib.Dec.{T, eqb, leb, ltb}
use lib.ListN.{length, take, drop, replicate, length-append, length-replicate, length-drop}
use borrow.Author.Tests.{ltb-false, ltb-true, lt-ltb, leb-false, lt-leb, eqb-true, eqb-false}
use Rattle.rules.specs.Bits.{front_bit}
use Rattle.rules.specs.Codes.{Colour, Code, code_bits}
use Rattle.rules.specs.Runs.{Res, ok, fault, Sum, sum, run_step, bits_after, answer, read_run}
use Rattle.rules.specs.Modes.{Moded, mode_bits, read_mode}
use Rattle.rules.specs.Lines.{Rules, Line, new_line, Went, went, failed, after_run, push_run, after_mode, code_2d, Kind, one, two, code_of, read_line}
use Rattle.rules.specs.Eols.{zero_run, eol_after, Eols, eols_to, read_eols, all_eols, skip, skip_to_eol}
use Rattle.rules.specs.Rows.{Encoding, group4, group3_1_d, group3_2_d, Settings, State, recovered_mark, RowOut, row, stop, rules_of, aligned_if}
use Rattle.rules.specs.Group4.{eols_before, over, after_line4, row4}
use Rattle.rules.specs.Group3.{Tagging, untagged, tagged, between_tags, eols3, Before, at_line, at_end, judged, searched, missing, lacking, checked, check_eob, before, tagged_line, line_of_tag, line3, kept, after_line3, row3}
use Rattle.rules.specs.Pages.{row_of}
use Rattle.rules.specs.Standing.{KeepsEols, WasRead}
use Rattle.rules.proofs.Bits.{both_true}
use Rattle.rules.proofs.Machine.{ends-stops}
use Rattle.rules.proofs.Agree.{Agree, agree_less, agree-word}
use Rattle.rules.proofs.Codes.{both, holds_one, spread, soon, shape}
use Rattle.rules.proofs.Runs.{Takes, First, run-first, run-falls}
use Rattle.rules.proofs.Modes.{Modes, ModeAt, mode_is_at, coded-soon}
use Rattle.rules.proofs.Lines.{moves, line-failed, read_whole}
use Rattle.rules.proofs.PageBack.{Soon}
use Rattle.rules.proofs.Eols.{eols-ahead, tags-beyond, eols3-ahead, eols3-read, skip-finds}
use Rattle.rules.proofs.EolChains.{after-bit, zeros-then, Quiet, soon-quiet, Chain, no_more, eol-then, chain-read, chain-all}
use Rattle.rules.proofs.Local.{read-local}
use Rattle.rules.proofs.Rows.{row4-cases, row3-cases, mended-cases}
use Rattle.rules.proofs.NextEol.{Towards, here, past_one, skips-to}

-- ---- What a line that is read begins with

-- a word with a one among its first n bits
first_one : (n : ℕ) (xs rest : List Bool) → T (holds_one (take n xs)) → (z : ℕ) × (zero_run (xs ++ rest) ≡ some z) × (z < n)
unfolding holds_one zero_run
first_one zero xs rest t = absurd t
first_one (suc n) [] rest t = absurd t
first_one (suc n) (true ∷ xs) rest t = (0, refl, omega arith)
first_one (suc n) (false ∷ xs) rest t =
    let r = first_one n xs rest t in
    (suc r.0, rw r.1, omega (arith, r.2))

word-soon : (xs rest : List Bool) → T (soon xs) → Soon 7 (xs ++ rest)
unfolding soon
word-soon xs rest t = let r = first_one 8 xs rest (both (holds_one (take 8 xs)) (spread xs) t).0 in (r.0, r.1, omega (arith, r.2))

module _ (bs : List Bool) where
  code-soon : (colour : Colour) (s : Sum) (c : Code) → Takes colour bs s c → Soon 7 (drop s.at bs)
  code-soon colour s c t = subst (Soon 7) (sym t.there) (word-soon (code_bits c) (drop (s.at + c.size) bs) (shape colour c t.member).one-soon)

  run-soon : (colour : Colour) (at : ℕ) (r : Sum) → read_run colour bs at ≡ ok r → Soon 7 (drop at bs)
  unfolding read_run
  run-soon colour at r e =
      let s = ends-stops (run_step colour bs) (bits_after bs) (run-falls colour bs) (sum at 0) in
      let f = subst (First bs colour (sum at 0)) (sym (ap answer s.1) ∙ e) (run-first bs colour (sum at 0) s.0 s.1) in
      code-soon colour (sum at 0) f.0 f.1

  module _ (R : Rules) where
    first-soon : (k : Kind) (s t : Line) → code_of R k bs s ≡ went t → Soon 7 (drop s.at bs)
    unfolding push_run code_2d
    first-soon one s t e = cases (read_run s.colour bs s.at) refl e
      where
        cases : (r : Res Sum) → read_run s.colour bs s.at ≡ r → after_run R s r ≡ went t → Soon 7 (drop s.at bs)
        cases (ok r) q f = run-soon s.colour s.at r q
        cases (fault n p) q f = absurd (let z : ◌≡◌ {A = ℕ} 0 1 = cc in omega arith)
    first-soon (two reference) s t e = cases (read_mode bs s.at) refl e
      where
        cases : (r : Res Moded) → read_mode bs s.at ≡ r → after_mode R reference bs s r ≡ went t → Soon 7 (drop s.at bs)
        cases (ok r) q f =
            let m : Modes bs s.at r = subst (ModeAt bs s.at) q (mode_is_at bs s.at) in
            subst (Soon 7) (sym m.there) (word-soon (mode_bits r.mode) (drop r.at bs) (coded-soon r.mode m.coded))
        cases (fault n p) q f = absurd (let z : ◌≡◌ {A = ℕ} 0 1 = cc in omega arith)

    -- a line that is read begins with seven zeros at most
    pub read-soon : 0 < R.width → (k : Kind) (at : ℕ) (l : Line) → read_line R k bs at ≡ went l → Soon 7 (drop at bs)
    unfolding read_line
    read-soon wide k at l e = cases (code_of R k bs (new_line at)) refl
      where
        cases : (w : Went) → code_of R k bs (new_line at) ≡ w → Soon 7 (drop at bs)
        cases (went t) q = first-soon k (new_line at) t q
        cases (failed n p t) q =
            let f = line-failed R.width (code_of R k bs) bs (moves R k bs) (new_line at) t n p (λ h. omega arith) q in
            absurd (let z : ◌≡◌ {A = ℕ} 0 1 = cc in omega arith)

-- ---- EOLs over other bits

-- the zeros and the one that closes them
zeros-word : (ds : List Bool) (z : ℕ) → zero_run ds ≡ some z → ds ≡ (replicate z false ++ true ∷ []) ++ drop (suc z) ds
unfolding zero_run
zeros-word [] z e = absurd (let y : ◌≡◌ {A = ℕ} 0 1 = cc in omega arith)
zeros-word (true ∷ ds) z e = let y : 0 ≡ z = cc in subst (λ (n : ℕ). true ∷ ds ≡ (replicate n false ++ true ∷ []) ++ drop (suc n) (true ∷ ds)) y refl
zeros-word (false ∷ ds) z e = cases (zeros-word ds) (zero_run ds) refl e
  where
    cases : ((k : ℕ) → zero_run ds ≡ some k → ds ≡ (replicate k false ++ true ∷ []) ++ drop (suc k) ds) → (o : Option ℕ) → zero_run ds ≡ o
        → (elim o as (λ _. Option ℕ) [ none ↦ none | some k ↦ some (suc k) ]) ≡ some z → false ∷ ds ≡ (replicate z false ++ true ∷ []) ++ drop (suc z) (false ∷ ds)
    cases ih none q f = absurd (let y : ◌≡◌ {A = ℕ} 0 1 = cc in omega arith)
    cases ih (some k) q f =
        let y : suc k ≡ z = cc in
        subst (λ (n : ℕ). false ∷ ds ≡ (replicate n false ++ true ∷ []) ++ drop (suc n) (false ∷ ds)) y (ap (λ (l : List Bool). false ∷ l) (ih k q))

-- a one that is the next bit
pub one-here : (ds : List Bool) → front_bit ds ≡ true → zero_run ds ≡ some 0
unfolding zero_run
one-here [] e = absurd (let y : ◌≡◌ {A = ℕ} 0 1 = let q : false ≡ true = e in cc in omega arith)
one-here (true ∷ ds) e = refl
one-here (false ∷ ds) e = absurd (let y : ◌≡◌ {A = ℕ} 0 1 = let q : false ≡ true = e in cc in omega arith)

module _ (bs cs : List Bool) where
  pub zeros-same : (at z : ℕ) → zero_run (drop at bs) ≡ some z → Agree (at + suc z) bs cs → zero_run (drop at cs) ≡ some z
  unfolding zero_run
  zeros-same at z e a =
      let w = agree-word a at (replicate z false ++ true ∷ []) (drop (suc z) (drop at bs)) (omega (arith, length-append (replicate z false) (true ∷ []), length-replicate z false)) (zeros-word (drop at bs) z e) in
      ap zero_run (w ∙ append_assoc (replicate z false) (true ∷ []) _) ∙ zeros-then z (true ∷ _) 0 refl ∙ ap (λ (n : ℕ). some n) (let y : z + 0 ≡ z = omega arith in y)

  pub bit-same : (at : ℕ) → Agree (suc at) bs cs → front_bit (drop at cs) ≡ front_bit (drop at bs)
  bit-same at a = cases (drop at bs) refl
    where
      cases : (ds : List Bool) → drop at bs ≡ ds → front_bit (drop at cs) ≡ front_bit ds
      cases [] e = absurd (omega (arith, a.long, length-drop at bs, ap length e))
      cases (x ∷ ds) e = ap front_bit (agree-word a at (x ∷ []) ds (omega arith) e)

  -- EOLs that are read, where there is no other behind them
  abbrev ChainTo : ℕ → Eols → Type 0
  ChainTo at e = Quiet cs e.at → Agree e.at bs cs → Chain cs e.count at e.at

  chain_same : (n at : ℕ) → ChainTo at (read_eols n bs at)
  unfolding read_eols
  chain_same zero at = λ q a. no_more q
  chain_same (suc n) at = cases (λ b. chain_same n b) (zero_run (drop at bs)) refl
    where
      step : Option ℕ → Eols
      step o = elim o as (λ _. Eols) [ none ↦ eols_to 0 at | some b ↦ let later = read_eols n bs b in eols_to (suc later.count) later.at ]

      closed : ((b : ℕ) → ChainTo b (read_eols n bs b)) → (z : ℕ) → zero_run (drop at bs) ≡ some z → (b : Bool) → ltb z 11 ≡ b → ChainTo at (step (cond b none (some (at + suc z))))
      closed ih z e true t = λ q a. no_more q
      closed ih z e false t = λ q a.
          eol-then (record { zeros = z; run = zeros-same at z e (agree_less (at + suc z) (eols-ahead n bs (at + suc z)).forward a); many = ltb-false z 11 t })
          (ih (at + suc z) q a)

      cases : ((b : ℕ) → ChainTo b (read_eols n bs b)) → (o : Option ℕ) → zero_run (drop at bs) ≡ o → ChainTo at (step (eol_after at o))
      cases ih none e = λ q a. no_more q
      cases ih (some z) e = closed ih z e (ltb z 11) refl

  pub eols-same : (at : ℕ) → Quiet cs (all_eols bs at).at → Agree (all_eols bs at).at bs cs → all_eols cs at ≡ all_eols bs at
  eols-same at q a = chain-all (chain_same (length bs) at q a)

  -- at most so many
  pub some_same : (n m at : ℕ) → Quiet cs (read_eols n bs at).at → Agree (read_eols n bs at).at bs cs → (read_eols n bs at).count ≤ m → read_eols m cs at ≡ read_eols n bs at
  some_same n m at q a h = chain-read (chain_same n at q a) m h

  -- ---- Before a line of a Group 3 page

  -- no EOL stands at the line, nor behind a one that is its tag bit
  abbrev pub Clear : Tagging → ℕ → Type 0
  Clear untagged at = Quiet cs at
  Clear tagged at = Quiet cs at × (front_bit (drop at cs) ≡ true → Quiet cs (suc at))

  -- behind EOLs that are read: where there is none no tag bit is looked for, and a one behind six or more is no line's
  abbrev pub Clears : Tagging → Eols → Type 0
  Clears untagged f = Quiet cs f.at
  Clears tagged f = Quiet cs f.at × (0 < f.count → leb 6 f.count ≡ false → front_bit (drop f.at cs) ≡ true → Quiet cs (suc f.at))

  clear-all : (t : Tagging) (f : Eols) → Clear t f.at → Clears t f
  clear-all untagged f q = q
  clear-all tagged f q = (q.0, λ k h. q.1)

  clear-quiet : (t : Tagging) (at : ℕ) → Clear t at → Quiet cs at
  clear-quiet untagged at q = q
  clear-quiet tagged at q = q.0

  -- tag bits between EOLs that are read, where neither a tag bit nor an EOL follows
  abbrev TagsTo : Eols → Eols → Type 0
  TagsTo e f = Clears tagged f → Agree (suc f.at) bs cs → Quiet cs e.at × ((m : ℕ) → f.at ≤ m + e.at → between_tags m cs e ≡ f)

  one-quiet : (at : ℕ) → front_bit (drop at cs) ≡ true → Quiet cs at
  one-quiet at e = soon-quiet cs at (0, one-here (drop at cs) e, omega arith)

  -- no tag bit follows in cs
  tags-end : (m : ℕ) (e : Eols) → front_bit (drop e.at cs) ≡ false → between_tags m cs e ≡ e
  unfolding between_tags
  tags-end zero e b = refl
  tags-end (suc m) e b = rw (b, between_tags)

  -- a one, and no EOL behind it: fewer than six were read, so that it is a line's tag bit; or it is an RTC's last
  tags-tag : (m : ℕ) (e : Eols) → front_bit (drop e.at cs) ≡ true → Quiet cs (suc e.at) → leb 6 e.count ≡ false → between_tags m cs e ≡ e
  unfolding between_tags
  tags-tag zero e b q h = refl
  tags-tag (suc m) e b q h = rw (b, q (length cs), h, between_tags)

  tags-rtc : (m : ℕ) (e : Eols) → front_bit (drop e.at cs) ≡ true → Quiet cs (suc e.at) → leb 6 e.count ≡ true → 0 < m → between_tags m cs e ≡ eols_to e.count (suc e.at)
  unfolding between_tags
  tags-rtc zero e b q h k = absurd (omega arith)
  tags-rtc (suc m) e b q h k = rw (b, q (length cs), h, between_tags)

  -- a one, and EOLs behind it
  tags-on : (m : ℕ) (e later : Eols) → front_bit (drop e.at cs) ≡ true → all_eols cs (suc e.at) ≡ later → eqb later.count 0 ≡ false
      → between_tags (suc m) cs e ≡ between_tags m cs (eols_to (e.count + later.count) later.at)
  unfolding between_tags
  tags-on m e later b q h = rw (b, between_tags) (rw (q, h) (ap (λ (x : Eols). between_tags m cs (eols_to (e.count + x.count) x.at)) q))

  tags-same : (n : ℕ) (e : Eols) → length bs ≤ n + e.at → 0 < e.count → TagsTo e (between_tags n bs e)
  unfolding between_tags
  tags-same zero e h some_read = λ q a. absurd (omega (arith, a.long))
  tags-same (suc n) e h some_read = cases (λ d. tags-same n d) (front_bit (drop e.at bs)) refl
    where
      later : Eols
      later = all_eols bs (suc e.at)

      joined : Eols
      joined = eols_to (e.count + later.count) later.at

      ahead : suc e.at ≤ later.at
      ahead = (eols-ahead (length bs) bs (suc e.at)).forward

      stays : front_bit (drop e.at bs) ≡ false → TagsTo e e
      stays b = λ q a. (q.0, λ m k. tags-end m e (bit-same e.at a ∙ b))

      tag : front_bit (drop e.at bs) ≡ true → (b : Bool) → leb 6 e.count ≡ b → TagsTo e (cond b (eols_to e.count (suc e.at)) e)
      tag f false h = λ q a. let c = bit-same e.at a ∙ f in (q.0, λ m k. tags-tag m e c (q.1 some_read h c) h)
      tag f true h = λ q a.
          let c = bit-same e.at (agree_less (suc e.at) (omega arith) a) ∙ f in
          (one-quiet e.at c, λ m k. tags-rtc m e c q.0 h (omega arith))

      on : front_bit (drop e.at bs) ≡ true → eqb later.count 0 ≡ false → TagsTo joined (between_tags n bs joined) → TagsTo e (between_tags n bs joined)
      on f h t = λ q a.
          let l : later.at ≤ (between_tags n bs joined).at = (tags-beyond n bs joined).forward in
          let r = t q a in
          let c = bit-same e.at (agree_less (suc e.at) (omega (arith, ahead)) a) ∙ f in
          (one-quiet e.at c, further c (eols-same (suc e.at) r.0 (agree_less later.at (omega arith) a)) r.1)
        where
          further : front_bit (drop e.at cs) ≡ true → all_eols cs (suc e.at) ≡ later → ((m : ℕ) → (between_tags n bs joined).at ≤ m + joined.at → between_tags m cs joined ≡ between_tags n bs joined)
              → (m : ℕ) → (between_tags n bs joined).at ≤ m + e.at → between_tags m cs e ≡ between_tags n bs joined
          further c s g zero k = absurd (omega (arith, (tags-beyond n bs joined).forward, ahead))
          further c s g (suc m) k = tags-on m e later c s h ∙ g m (omega (arith, ahead))

      cases : ((d : Eols) → length bs ≤ n + d.at → 0 < d.count → TagsTo d (between_tags n bs d)) → (b : Bool) → front_bit (drop e.at bs) ≡ b
          → TagsTo e (elim b as (λ _. Eols) [
            | false ↦ e
            | true ↦ elim (eqb later.count 0) [ true ↦ cond (leb 6 e.count) (eols_to e.count (suc e.at)) e | false ↦ between_tags n bs joined ]
          ])
      cases ih false b = stays b
      cases ih true b = counts (eqb later.count 0) refl
        where
          counts : (c : Bool) → eqb later.count 0 ≡ c
              → TagsTo e (elim c as (λ _. Eols) [ true ↦ cond (leb 6 e.count) (eols_to e.count (suc e.at)) e | false ↦ between_tags n bs joined ])
          counts true g = tag b (leb 6 e.count) refl
          counts false g = on b g (ih joined (omega (arith, ahead)) (omega arith))

  positive : (n : ℕ) → (n ≡ 0 → ⊥) → 0 < n
  positive zero h = absurd (h refl)
  positive (suc n) h = omega arith

  -- Group 3's EOLs, before a line
  pub eols3-same : (t : Tagging) (at : ℕ) → Clears t (eols3 bs t at) → Agree (suc (eols3 bs t at).at) bs cs → eols3 cs t at ≡ eols3 bs t at
  eols3-same untagged at = λ q a. eols-same at q (agree_less (all_eols bs at).at (omega arith) a)
  eols3-same tagged at = counts (eqb (all_eols bs at).count 0) refl
    where
      e : Eols
      e = all_eols bs at

      counts : (b : Bool) → eqb e.count 0 ≡ b → Clears tagged (cond b e (between_tags (length bs) bs e)) → Agree (suc (cond b e (between_tags (length bs) bs e)).at) bs cs
          → cond (eqb (all_eols cs at).count 0) (all_eols cs at) (between_tags (length cs) cs (all_eols cs at)) ≡ cond b e (between_tags (length bs) bs e)
      counts true h q a = let s = eols-same at q.0 (agree_less e.at (omega arith) a) in rw (s, h)
      counts false h q a =
          let t = tags-same (length bs) e (omega arith) (positive e.count (eqb-false e.count 0 h)) q a in
          let f = (tags-beyond (length bs) bs e).forward in
          let s = eols-same at t.0 (agree_less e.at (omega arith) a) in
          rw (s, h) (t.1 (length cs) (omega (arith, a.long')))

  -- the ones that the search went past stand there too
  pub skip-same : (n at a : ℕ) → skip n bs at ≡ some a → Agree a bs cs → Towards cs at a
  unfolding skip
  skip-same zero at a e g = absurd (let y : ◌≡◌ {A = ℕ} 0 1 = cc in omega arith)
  skip-same (suc n) at a e g = cases (λ b f. skip-same n b a f g) (zero_run (drop at bs)) refl e
    where
      closed : ((b : ℕ) → skip n bs b ≡ some a → Towards cs b a) → (z : ℕ) → zero_run (drop at bs) ≡ some z → (b : Bool) → ltb z 11 ≡ b
          → (elim b as (λ _. Option ℕ) [ true ↦ skip n bs (at + suc z) | false ↦ some at ]) ≡ some a → Towards cs at a
      closed ih z q true t f =
          past_one (zeros-same at z q (agree_less (at + suc z) (skip-finds n bs (at + suc z) a f).forward g)) (omega (arith, ltb-true z 11 t)) (ih (at + suc z) f)
      closed ih z q false t f = let y : at ≡ a = cc in subst (Towards cs at) y here

      cases : ((b : ℕ) → skip n bs b ≡ some a → Towards cs b a) → (o : Option ℕ) → zero_run (drop at bs) ≡ o
          → (elim o as (λ _. Option ℕ) [ none ↦ none | some z ↦ elim (ltb z 11) [ true ↦ skip n bs (at + suc z) | false ↦ some at ] ]) ≡ some a → Towards cs at a
      cases ih none q f = absurd (let y : ◌≡◌ {A = ℕ} 0 1 = cc in omega arith)
      cases ih (some z) q f = closed ih z q (ltb z 11) refl f

-- an EOL is ahead, and none stands here: the first one comes too soon
pub towards-quiet : {cs : List Bool} {at a : ℕ} → Towards cs at a → (at ≡ a → ⊥) → Quiet cs at
towards-quiet here n = absurd (n refl)
towards-quiet {cs} {at} (past_one {z = z} e h t) n = soon-quiet cs at (z, e, h)

-- where none stands, none is read
pub quiet-eols3 : (cs : List Bool) (t : Tagging) (at : ℕ) → Quiet cs at → eols3 cs t at ≡ eols_to 0 at
quiet-eols3 cs untagged at q = q (length cs)
quiet-eols3 cs tagged at q = rw (q (length cs))

-- ---- Before a row

module _ (S : Settings) (t : Tagging) (bs cs : List Bool) where
  -- a line begins here, and EOLs are not given up
  module _ (at : ℕ) (expected : Bool) (clear : (a : ℕ) → (eols3 bs t a).at ≡ at → Clears bs cs t (eols3 bs t a)) (agree : Agree (suc at) bs cs) where
    -- neither data end before it
    same_end : (n : ℕ) → n ≤ at → leb (length cs) n ≡ leb (length bs) n
    same_end n h = lt-leb (length cs) n (omega (arith, agree.long')) ∙ sym (lt-leb (length bs) n (omega (arith, agree.long)))

    at-line : (a : ℕ) → (eols3 bs t a).at ≡ at → eols3 cs t a ≡ eols3 bs t a
    at-line a e = eols3-same bs cs t a (clear a e) (subst (λ (n : ℕ). Agree (suc n) bs cs) (sym e) agree)

    -- the tests before a line, which does not begin at the end of the data
    judged-line : (rows_done ex : Bool) (e : Eols) → judged S t bs rows_done ex e ≡ at_line at expected
        → (e.at ≡ at) × (judged S t cs rows_done ex e ≡ at_line at expected) × (ex ≡ expected)
    judged-line rows_done ex e = tests (S.end_of_block && leb 6 e.count) rows_done (leb (length bs) e.at) refl
      where
        tests : (x y z : Bool) → leb (length bs) e.at ≡ z → cond {A = Before S t bs} (x || (y || z)) (at_end e.at) (at_line e.at ex) ≡ at_line at expected
            → (e.at ≡ at) × (cond {A = Before S t cs} (x || (y || leb (length cs) e.at)) (at_end e.at) (at_line e.at ex) ≡ at_line at expected) × (ex ≡ expected)
        tests false false false h f =
            let p : e.at ≡ at = cc in
            let q : ex ≡ expected = cc in
            (p, rw (same_end e.at (omega arith), h) (ap₂ (λ (n : ℕ) (x : Bool). at_line n x) p q), q)
        tests false false true h f = absurd (let y : ◌≡◌ {A = ℕ} 0 1 = cc in omega arith)
        tests false true z h f = absurd (let y : ◌≡◌ {A = ℕ} 0 1 = cc in omega arith)
        tests true y z h f = absurd (let y : ◌≡◌ {A = ℕ} 0 1 = cc in omega arith)

    -- an EOL that was missing, and was found by the search
    found-line : (st : State) (rows_done : Bool) (e : Eols) (a0 : ℕ) → eols3 bs t a0 ≡ e → (st.eols ≡ true → expected ≡ true) → lacking S t bs rows_done st e ≡ true
        → missing S t bs S.strict e.at ≡ at_line at expected → check_eob S t cs st rows_done (eols3 cs t a0) ≡ at_line at expected
    found-line st rows_done e a0 same k l = stricts S.strict refl
      where
        some-l : (eqb e.count 0 && st.eols) ≡ true
        some-l = (both_true (eqb e.count 0 && st.eols) (not (rows_done || leb (length bs) e.at)) l).0

        none-there : e.count ≡ 0
        none-there = eqb-true e.count 0 (both_true (eqb e.count 0) st.eols some-l).0

        stays : e.at ≡ a0
        stays = let h = (eols3-ahead bs t a0).none_read (ap (λ (x : Eols). x.count) same ∙ none-there) in ap (λ (x : Eols). x.at) (sym same) ∙ h

        -- the search leads from here to an EOL behind which the line is
        leads : (a : ℕ) → skip_to_eol bs e.at ≡ some a → judged S t bs false true (eols3 bs t a) ≡ at_line at expected → S.strict ≡ false
            → check_eob S t cs st rows_done (eols3 cs t a0) ≡ at_line at expected
        leads a q f n =
            let j = judged-line false true (eols3 bs t a) f in
            let s = at-line a j.0 in
            let found = skip-finds (length bs) bs e.at a q in
            let some_read : 0 < (eols3 cs t a).count = subst (λ (x : Eols). 0 < x.count) (sym s) (eols3-read bs t a found.eol) in
            let stood = (eols3-ahead cs t a).stood some_read in
            let before_at : a + 12 ≤ at = omega (arith, stood.1, ap (λ (x : Eols). x.at) s, j.0) in
            let w : Towards cs e.at a = skip-same bs cs (length bs) e.at a q (agree_less a (omega arith) agree) in
            let differs : e.at ≡ a → ⊥ = λ g. absurd (omega (arith, eols3-read bs t a found.eol, ap (λ (x : Eols). x.count) same, none-there, ap (λ (i : ℕ). (eols3 bs t i).count) (sym g ∙ stays))) in
            let here' : eols3 cs t a0 ≡ e = quiet-eols3 cs t a0 (subst (Quiet cs) stays (towards-quiet w differs)) ∙ ap₂ eols_to (sym none-there) (sym stays) in
            let le : e.at ≤ at = omega (arith, found.forward) in
            rw (here', same_end e.at le, l) (ap (λ (b : Bool). missing S t cs b e.at) n ∙ rw (skips-to cs w stood.0, s) j.1)

        finds : (o : Option ℕ) → skip_to_eol bs e.at ≡ o → searched S t bs e.at o ≡ at_line at expected → S.strict ≡ false
            → check_eob S t cs st rows_done (eols3 cs t a0) ≡ at_line at expected
        finds (some a) q f n = leads a q f n
        finds none q f n =
            let j = judged-line false false (eols_to 0 e.at) f in
            let x : false ≡ true = j.2 ∙ k (both_true (eqb e.count 0) st.eols some-l).1 in
            absurd (let y : ◌≡◌ {A = ℕ} 0 1 = cc in omega arith)

        stricts : (b : Bool) → S.strict ≡ b → missing S t bs b e.at ≡ at_line at expected → check_eob S t cs st rows_done (eols3 cs t a0) ≡ at_line at expected
        stricts true n f = absurd (let y : ◌≡◌ {A = ℕ} 0 1 = cc in omega arith)
        stricts false n f = finds (skip_to_eol bs e.at) refl f n

    before-later : (st : State) → (st.eols ≡ true → expected ≡ true) → before S t bs st false ≡ at_line at expected → before S t cs st false ≡ at_line at expected
    before-later st k = tests (lacking S t bs rows_done st e) refl
      where
        rows_done : Bool
        rows_done = eqb st.count S.rows

        a0 : ℕ
        a0 = aligned_if (S.aligned && not st.eols) st.at

        e : Eols
        e = eols3 bs t a0

        tests : (b : Bool) → lacking S t bs rows_done st e ≡ b → checked S t bs rows_done st e b ≡ at_line at expected → check_eob S t cs st rows_done (eols3 cs t a0) ≡ at_line at expected
        tests true l f = found-line st rows_done e a0 refl k l f
        tests false l f =
            let j = judged-line rows_done st.eols e f in
            let s = at-line a0 j.0 in
            rw (s, same_end e.at (omega (arith, j.0)), l) j.1

  -- before the first row, where no EOL stands at the line
  before-first : (at : ℕ) (expected : Bool) → Quiet cs at → Agree at bs cs → (st : State) → before S t bs st true ≡ at_line at expected → before S t cs st true ≡ at_line at expected
  before-first at expected quiet agree st e =
      let p : (all_eols bs st.at).at ≡ at = cc in
      let q : (ltb 0 (all_eols bs st.at).count || S.end_of_line) ≡ expected = cc in
      let s = eols-same bs cs st.at (subst (Quiet cs) (sym p) quiet) (subst (λ (n : ℕ). Agree n bs cs) (sym p) agree) in
      rw s (ap₂ (λ (n : ℕ) (x : Bool). at_line n x) p q)

  -- what a row that stands over other bits needs where its line begins
  abbrev pub Open : Bool → ℕ → Type 0
  Open true at = Quiet cs at
  Open false at = (a : ℕ) → (eols3 bs t a).at ≡ at → Clears bs cs t (eols3 bs t a)

  pub before_same : (at : ℕ) (expected b : Bool) → Open b at → Agree (suc at) bs cs → (st : State) → (b ≡ false → st.eols ≡ true → expected ≡ true) → before S t bs st b ≡ at_line at expected
      → before S t cs st b ≡ at_line at expected
  before_same at expected false o a st k e = before-later at expected o a st (k refl) e
  before_same at expected true o a st k e = before-first at expected o (agree_less at (omega arith) a) st e

  clear-open : (b : Bool) (at : ℕ) → Clear bs cs t at → Open b at
  clear-open false at c = λ a e. clear-all bs cs t (eols3 bs t a) (subst (Clear bs cs t) (sym e) c)
  clear-open true at c = clear-quiet bs cs t at c

-- ---- One row

pub neither : (a b : Bool) → (a || b) ≡ false → (a ≡ false) × (b ≡ false)
neither false b e = (refl, e)
neither true b e = absurd (let y : ◌≡◌ {A = ℕ} 0 1 = cc in omega arith)

-- no EOL stands where a line is read
line_quiet : (cs : List Bool) (at : ℕ) → Soon 7 (drop at cs) → Quiet cs at
line_quiet cs at (z, e, k) = soon-quiet cs at (z, e, omega arith)

pub align-up : (b : Bool) (n : ℕ) → n ≤ aligned_if b n
align-up true n = omega arith
align-up false n = omega arith

-- the EOLs before a Group 4 line: at most two, of which two would end the page; or all
group4-eols : (bs cs : List Bool) (at : ℕ) (b : Bool) → (b && leb 2 (read_eols (cond b 2 (length bs)) bs at).count) ≡ false
    → Quiet cs (read_eols (cond b 2 (length bs)) bs at).at → Agree (read_eols (cond b 2 (length bs)) bs at).at bs cs
    → read_eols (cond b 2 (length cs)) cs at ≡ read_eols (cond b 2 (length bs)) bs at
group4-eols bs cs at true h q a = some_same bs cs 2 2 at q a (let k = leb-false 2 (read_eols 2 bs at).count h in omega arith)
group4-eols bs cs at false h q a = eols-same bs cs at q a

-- a line of a Group 3 page over other bits
module _ (S : Settings) (t : Tagging) (bs cs : List Bool) (R : Rules) (wide : 0 < R.width) (reference : List ℕ) (at : ℕ) (l : Line) (a : Agree l.at bs cs) where
  -- behind its tag bit
  tagged-clear : (k : Kind) → read_line R k cs (suc at) ≡ went l → at < length cs → Clear bs cs tagged at
  unfolding zero_run
  tagged-clear k e h = (here' (drop at cs) refl, λ x. behind)
    where
      s : Soon 7 (drop (suc at) cs)
      s = read-soon cs R wide k (suc at) l e

      behind : Quiet cs (suc at)
      behind = line_quiet cs (suc at) s

      here' : (ds : List Bool) → drop at cs ≡ ds → Quiet cs at
      here' [] q = absurd (omega (arith, length-drop at cs, ap length q))
      here' (true ∷ ds) q = one-quiet bs cs at (ap front_bit q)
      here' (false ∷ ds) q = soon-quiet cs at (suc s.0, ap zero_run q ∙ rw (ap zero_run (sym (after-bit cs at false ds q)) ∙ s.1), omega (arith, s.2))

  line3-over : (u : Tagging) → line3 S t bs R reference at u ≡ went l → (line3 S t cs R reference at u ≡ went l) × Clear bs cs u at × (suc at ≤ l.at)
  line3-over untagged e =
      let f = read-local R bs cs one at l e a in
      (f, line_quiet cs at (read-soon cs R wide one at l f), (read_whole R wide one bs at l e).some_bits)
  line3-over tagged e = ends-after (ltb at (length bs)) e
    where
      kinds : (b : Bool) → front_bit (drop at bs) ≡ b → tagged_line S t bs R reference at b ≡ went l
          → (line_of_tag S t cs R reference at (ltb at (length cs)) ≡ went l) × Clear bs cs tagged at × (suc at ≤ l.at)
      kinds true q f =
          let w = read_whole R wide one bs (suc at) l f in
          let g = read-local R bs cs one (suc at) l f a in
          let h : at < length cs = omega (arith, a.long', w.some_bits) in
          (rw (lt-ltb at (length cs) h, bit-same bs cs at (agree_less (suc at) (omega (arith, w.some_bits)) a), q) g, tagged-clear one g h, omega (arith, w.some_bits))
      kinds false q f =
          let w = read_whole R wide (two reference) bs (suc at) l f in
          let g = read-local R bs cs (two reference) (suc at) l f a in
          let h : at < length cs = omega (arith, a.long', w.some_bits) in
          (rw (lt-ltb at (length cs) h, bit-same bs cs at (agree_less (suc at) (omega (arith, w.some_bits)) a), q) g, tagged-clear (two reference) g h, omega (arith, w.some_bits))

      ends-after : (b : Bool) → line_of_tag S t bs R reference at b ≡ went l → (line_of_tag S t cs R reference at (ltb at (length cs)) ≡ went l) × Clear bs cs tagged at × (suc at ≤ l.at)
      ends-after true f = kinds (front_bit (drop at bs)) refl f
      ends-after false f = absurd (let z : ◌≡◌ {A = ℕ} 0 1 = cc in omega arith)

-- EOLs are not given up from one state to the next
abbrev pub Keeps : State → State → Type 0
Keeps st next = KeepsEols st.eols next.eols

-- A row that hangs on the bits before the reader's alone: it was read, and no EOLs were given up before it. Before the first row none are.
abbrev pub Settled : State → ℕ → State → Type 0
Settled st mark next = WasRead mark × (eqb st.count 0 ≡ false → Keeps st next)

module _ (S : Settings) (wide : 0 < S.columns) (bs cs : List Bool) (room : ℕ) (st : State) (r : List ℕ) (mark : ℕ) (next : State) (agree : Agree next.at bs cs) where
  pub row4-same : row4 S bs room st ≡ row r mark next → row4 S cs room st ≡ row r mark next
  unfolding row4
  row4-same =
      row4-cases S bs room st (λ o. o ≡ row r mark next → row4 S cs room st ≡ row r mark next)
      (λ h f. absurd (let z : ◌≡◌ {A = ℕ} 0 1 = cc in omega arith))
      reads
    where
      e : Eols
      e = eols_before S bs st

      R : Rules
      R = rules_of S room

      reads : over S bs st e ≡ false → (w : Went) → read_line R (two st.reference) bs e.at ≡ w → after_line4 S bs st w ≡ row r mark next → row4 S cs room st ≡ row r mark next
      reads h (failed n p l) q f = absurd (let z : ◌≡◌ {A = ℕ} 0 1 = cc in omega arith)
      reads h (went l) q f =
          let to : aligned_if S.aligned l.at ≡ next.at = ap at_of f in
          let a : Agree l.at bs cs = agree_less l.at (omega (arith, align-up S.aligned l.at)) agree in
          let g = read-local R bs cs (two st.reference) e.at l q a in
          let w = read_whole R wide (two st.reference) bs e.at l q in
          let quiet = line_quiet cs e.at (read-soon cs R wide (two st.reference) e.at l g) in
          let n = neither (S.end_of_block && leb 2 e.count) ((not (eqb S.rows 0) && eqb st.count S.rows) || leb (length bs) e.at) h in
          let same : eols_before S cs st ≡ e = group4-eols bs cs st.at S.end_of_block n.0 quiet (agree_less e.at (omega (arith, w.some_bits)) a) in
          let end : leb (length cs) e.at ≡ leb (length bs) e.at = lt-leb (length cs) e.at (omega (arith, a.long', w.some_bits)) ∙ sym (lt-leb (length bs) e.at (omega (arith, a.long, w.some_bits))) in
          rw (same, end, h, g) f
        where
          at_of : RowOut → ℕ
          at_of (row x m s) = s.at
          at_of (stop n p b x) = 0

  module _ (t : Tagging) where
    pub row3-same : Settled st mark next → row3 S t bs room st ≡ row r mark next → row3 S t cs room st ≡ row r mark next
    unfolding row3
    row3-same h =
        row3-cases S t bs room st (λ o. o ≡ row r mark next → row3 S t cs room st ≡ row r mark next)
        (λ at q f. absurd (let z : ◌≡◌ {A = ℕ} 0 1 = cc in omega arith))
        (λ at q f. absurd (let z : ◌≡◌ {A = ℕ} 0 1 = cc in omega arith))
        reads
      where
        R : Rules
        R = rules_of S room

        next_of : RowOut → State
        next_of (row x m s) = s
        next_of (stop n p b x) = next

        -- a mended row is marked
        mends : (at : ℕ) (expected : Bool) (w : Went) → kept S t bs st expected at recovered_mark w ≡ row r mark next → ⊥
        mends at expected (went u) f = h.0 (let z : recovered_mark ≡ mark = cc in sym z)
        mends at expected (failed n p u) f = let z : ◌≡◌ {A = ℕ} 0 1 = cc in omega arith

        reads : (at : ℕ) (expected : Bool) → before S t bs st (eqb st.count 0) ≡ at_line at expected → (w : Went) → line3 S t bs R st.reference at t ≡ w
            → after_line3 S t bs R st at expected w ≡ row r mark next → row3 S t cs room st ≡ row r mark next
        reads at expected q (went l) m = λ f.
            let to = ap next_of f in
            let a : Agree l.at bs cs = agree_less l.at (omega (arith, ap (λ (x : State). x.at) to)) agree in
            let g = line3-over S t bs cs R wide st.reference at l a t m in
            let b = before_same S t bs cs at expected (eqb st.count 0) (clear-open S t bs cs (eqb st.count 0) at g.1) (agree_less (suc at) (omega (arith, g.2)) a) st (λ z x. ap (λ (s : State). s.eols) to ∙ h.1 z x) q in
            rw (b, g.0) f
        reads at expected q (failed n p l) m =
            mended-cases S t bs R st at expected n p l (λ o. o ≡ row r mark next → row3 S t cs room st ≡ row r mark next)
            (λ x y z w k f. absurd (mends at expected w f))
            (λ f. absurd (let z : ◌≡◌ {A = ℕ} 0 1 = cc in omega arith))

  -- Damage never reaches back: a row that is read stands over any other data that agree with these up to the bit behind it.
  pub row_same : (enc : Encoding) → Settled st mark next → row_of enc S bs room st ≡ row r mark next → row_of enc S cs room st ≡ row r mark next
  unfolding row_of
  row_same group4 h = row4-same
  row_same group3_1_d h = row3-same untagged h
  row_same group3_2_d h = row3-same tagged h
