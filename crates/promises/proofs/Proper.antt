-- Proper pages: what `check` says is what the rules say of the page that was read. Assumes nothing.
use mathlib.Core.Path.{◌≡◌, refl, sym, ap, ◌∙◌, subst}
use mathlib.Core.Logic.{◌⊎◌, ◌↔◌}
use mathlib.Core.Bool.{Bool, true, ◌&&◌}
use mathlib.Core.List.{List, [], ◌∷◌}
use Prim.Native.Nat.{ℕ, zero, suc, ◌+◌, ◌≤◌, ◌<◌}
use native.Mathlib.Omega.{arith}
use native.Mathlib.Nat.{le-min}
use lib.ListN.{length, take, get_or, length-take}
use lib.Dec.{leb}
use borrow.Author.Tests.{eq-eqb}
use Rattle.rules.specs.Answers.{complete, most_pixels}
use Rattle.rules.specs.Bits.{bits_of}
use Rattle.rules.specs.Rows.{Settings}
use Rattle.rules.specs.Pages as Page
use Rattle.rules.specs.Pages.{decode, places_in, entries}
use Rattle.rules.specs.Write.{rows_in, write_page}
use Rattle.rules.specs.WriteGroup3.{write_1d, write_2d, layout_1d, mixed}
use Rattle.rules.specs.Proper.{Writer, writer_bits, padded, Proper, IsProper, writer_in, writes_rows, taken, page_for, parts_at, is_proper, parts_in}
use Rattle.rules.proofs.Proper.{AreBytes, proper-once, proper-said, said-proper, shared-first, shared-parts}
use Rattle.rules.proofs.PageBack.{Plain}
use Rattle.rules.proofs.ProperWritten as Written
use Rattle.answer.specs.declared.Answer.{Answer}
use Rattle.settings.specs.declared.DecodeSettings.{DecodeSettings}
use Rattle.settings.specs.Settings.{encoding_of, settings_of}
use Rattle.ccitt.specs.Decode.{Decodes}
use Rattle.writer.specs.Outcome.{Answers}
use Rattle.proper.specs.declared.Checked.{Checked}
use Rattle.promises.specs.Rooms.{Call, rows_of, handed}
use Rattle.promises.specs.Demand3.{Plainly}
use Rattle.promises.specs.WriteGroup3.{For1D, For2D}
use Rattle.promises.specs.Proper.{CheckPinned, Checking, took_in, ProperMeans, PartsMeans, BothProper, ProperOnce, ProperDamage, Roomy, WrittenPageIsProper, Written1DIsProper, Written2DIsProper}
use Rattle.promises.proofs.Demand1.{in-store}
use Rattle.promises.proofs.Demand3 as Demand3
use Rattle.promises.proofs.WriteGroup3 as Group3
use Rattle.promises.proofs.Pinned.{decode-pinned}

pub check-pinned : CheckPinned
check-pinned bytes settings changes ends marks r s xs ys es fs ms ns g h =
    let (a, x, e, m) = decode-pinned bytes settings changes ends marks r.answer s.answer xs ys es fs ms ns g.decodes h.decodes in
    (λ i. record { answer = a i; parts = (g.parts ∙ sym h.parts) i; gave_up = (g.gave_up ∙ sym h.gave_up) i; proper = (g.proper ∙ sym h.proper) i }, x, e, m)

-- of a page that was done, and that a writer might have written, the place is how many bits are shared
parts-done : (S : Settings) (bytes : List ℕ) (a : Page.Answer) → a.number ≡ complete → writes_rows S.encoding (length a.rows) ≡ true
    → parts_in S bytes a ≡ parts_at (page_for S.encoding S.columns a.rows (taken bytes a)) (taken bytes a)
unfolding parts_in
parts-done S bytes a done writes = rw (eq-eqb a.number complete done, writes, parts_in)

-- two answers with the same number, bytes and rows are proper by the same writer
carried : (S : Settings) (bytes : List ℕ) (a b : Page.Answer) (w : Writer) → a.number ≡ b.number → a.bytes ≡ b.bytes → a.rows ≡ b.rows
    → Proper S bytes a w → Proper S bytes b w
carried S bytes a b w n t r p = record {
  whole = sym n ∙ p.whole;
  writer = p.writer;
  rowed = subst (λ (rows : List (List ℕ)). writes_rows S.encoding (length rows) ≡ true) r p.rowed;
  same = ap (λ (k : ℕ). bits_of (take k bytes)) (sym t) ∙ p.same ∙ ap (λ (rows : List (List ℕ)). padded (writer_bits S.columns w rows)) r;
}

module _ (bytes : List ℕ) (settings : DecodeSettings) (c : Call) (d : Checked) (k : Checking bytes settings c d) where
  abbrev S : Settings
  S = settings_of settings

  -- the page that was read
  abbrev read : Page.Answer
  read = decode S bytes (length c.changes) (places_in c.ends c.marks)

  reading : Decodes bytes settings c.changes c.ends c.marks c.answer c.changes' c.ends' c.marks'
  reading = subst (λ (r : Answer). Decodes bytes settings c.changes c.ends c.marks r c.changes' c.ends' c.marks') (sym k.answer) k.checks.decodes

  number_is : c.answer.number ≡ read.number
  number_is = ap (λ (r : Answer). r.number) reading.answer

  bytes-are : c.answer.bytes ≡ read.bytes
  bytes-are = ap (λ (r : Answer). r.bytes) reading.answer

  rows_are : rows_of c ≡ read.rows
  rows_are = in-store _ c.changes c.ends c.marks c.answer c.changes' c.ends' c.marks' reading

  to-handed : (w : Writer) → Proper S bytes read w → Proper S bytes (handed c) w
  to-handed w = carried S bytes read (handed c) w (sym number_is) (sym bytes-are) (sym rows_are)

  -- ---- What is said

  means : 0 < settings.columns → (d.proper ≡ true) ↔ IsProper S bytes (handed c)
  means wide = (
    λ e. (_, to-handed _ (said-proper S bytes read (sym k.checks.proper ∙ e))),
    λ (w, p). k.checks.proper ∙ proper-said S bytes read wide (w, carried S bytes (handed c) read w number_is bytes-are rows_are p),
  )

  -- of a proper page the writer is the one that is found
  by-found : d.proper ≡ true → Proper S bytes (handed c) (writer_in (encoding_of settings.encoding) settings.columns (bits_of (took_in bytes c)) (rows_of c))
  by-found e =
      to-handed _
      (subst (Proper S bytes read) (λ i. writer_in (encoding_of settings.encoding) settings.columns (bits_of (take (sym bytes-are i) bytes)) (sym rows_are i))
      (said-proper S bytes read (sym k.checks.proper ∙ e)))

  -- the place is how many bits the page and the bytes share
  place_is : c.answer.number ≡ complete → writes_rows (encoding_of settings.encoding) (length (rows_of c)) ≡ true
      → d.parts ≡ parts_at (page_for (encoding_of settings.encoding) settings.columns (rows_of c) (took_in bytes c)) (took_in bytes c)
  place_is done writes =
      k.checks.parts
      ∙ parts-done S bytes read (sym number_is ∙ done)
      (subst (λ (rows : List (List ℕ)). writes_rows (encoding_of settings.encoding) (length rows) ≡ true) rows_are writes)
      ∙ (λ i.
      parts_at (page_for (encoding_of settings.encoding) settings.columns (sym rows_are i) (take (sym bytes-are i) bytes)) (take (sym bytes-are i) bytes))

pub proper-means : ProperMeans
proper-means bytes settings c d wide k = means bytes settings c d k wide

pub parts-means : PartsMeans
parts-means bytes settings c d k done writes page e =
    let is = place_is bytes settings c d k done writes ∙ ap (λ (p : List Bool). parts_at p (took_in bytes c)) (sym e) in
    subst (λ (n : ℕ). Parted n) (sym is) (sym (shared-first page (bits_of (took_in bytes c))), shared-parts page (bits_of (took_in bytes c)))
  where
    Parted : ℕ → Type 0
    Parted n = (take n (bits_of (took_in bytes c)) ≡ take n page)
        × (n < length page → n < length (bits_of (took_in bytes c)) → get_or page n true ≡ get_or (bits_of (took_in bytes c)) n true → ⊥)

-- ---- Once

-- bytes that a page took are bytes
front_bytes : (n : ℕ) (bytes : List ℕ) → AreBytes bytes → AreBytes (take n bytes)
front_bytes zero bytes h i = omega arith
front_bytes (suc n) [] h i = omega arith
front_bytes (suc n) (b ∷ bytes) h zero = h 0
front_bytes (suc n) (b ∷ bytes) h (suc i) = front_bytes n bytes (λ j. h (suc j)) i

pub proper-is-once : ProperOnce
proper-is-once bytes bytes' settings c c' d d' b same_rows same_writer =
    proper-once (settings_of settings) bytes bytes' (handed c) (handed c') _
    (by-found bytes settings c d b.first b.proper)
    (subst (Proper (settings_of settings) bytes' (handed c')) (sym same_writer) (by-found bytes' settings c' d' b.second b.proper'))
    same_rows (front_bytes c.answer.bytes bytes b.below) (front_bytes c'.answer.bytes bytes' b.below')

pub proper-damage : ProperDamage
proper-damage bytes bytes' settings c c' d d' b other same_rows same_writer =
    other (proper-is-once bytes bytes' settings c c' d d' b same_rows same_writer)

-- ---- What is written is proper

-- the room that a call lends, in the rules' words
module _ (changes ends : List ℕ) (c : Call) (r : Roomy changes ends c) where
  enough-places : length ends ≤ places_in c.ends c.marks
  enough-places = le-min r.places r.marks

pub written-page-is-proper : WrittenPageIsProper
written-page-is-proper columns changes ends out w out' narrow written z bytes small e settings s counted c d roomy k =
    k.checks.proper
    ∙ Written.written-page (settings_of settings) changes ends out out' (length c.changes) (places_in c.ends c.marks) roomy.store (enough-places changes ends c roomy)
    plain done here.size here.bits counted bytes small
    (ap (λ (n : ℕ). take n bytes) (sym end_is) ∙ e ∙ ap (λ (n : ℕ). take n out') end_is)
  where
    here : Answers (write_page settings.columns changes ends out) out w out'
    here = subst (λ (n : ℕ). Answers (write_page n changes ends out) out w out') (sym s.same_columns) written

    done : (write_page settings.columns changes ends out).number ≡ complete
    done = sym (ap (λ (x : Answer). x.number) here.answer) ∙ z

    end_is : w.bytes ≡ (write_page settings.columns changes ends out).end
    end_is = ap (λ (x : Answer). x.bytes) here.answer

    plain : Plain (settings_of settings)
    plain = Demand3.plain columns changes ends out w out' narrow written z settings s

pub written-1d-is-proper : Written1DIsProper
unfolding write_1d
written-1d-is-proper columns changes ends out eols fill w out' narrow written z settings s c d roomy k =
    k.checks.proper
    ∙ subst (λ (n : ℕ). is_proper (settings_of settings) (take n out') (decode (settings_of settings) (take n out') (length c.changes) (places_in c.ends c.marks)) ≡ true) (sym end_is)
    (Written.written-1d (settings_of settings) changes ends out out' (length c.changes) (places_in c.ends c.marks) roomy.store (enough-places changes ends c roomy)
    eols fill (Group3.told columns eols (length ends) settings wide narrow s) done here.size here.bits)
  where
    here : Answers (write_1d eols fill settings.columns changes ends out) out w out'
    here = subst (λ (n : ℕ). Answers (write_1d eols fill n changes ends out) out w out') (sym s.same_columns) written

    done : (write_1d eols fill settings.columns changes ends out).number ≡ complete
    done = sym (ap (λ (x : Answer). x.number) here.answer) ∙ z

    end_is : w.bytes ≡ (write_1d eols fill settings.columns changes ends out).end
    end_is = ap (λ (x : Answer). x.bytes) here.answer

    wide : 0 < columns
    wide = Group3.wide (layout_1d eols fill) (leb fill 64) columns changes ends out w out' narrow written z

pub written-2d-is-proper : Written2DIsProper
unfolding write_2d
written-2d-is-proper columns changes ends out k' w out' narrow written z settings s c d roomy k =
    k.checks.proper
    ∙ subst (λ (n : ℕ). is_proper (settings_of settings) (take n out') (decode (settings_of settings) (take n out') (length c.changes) (places_in c.ends c.marks)) ≡ true) (sym end_is)
    (Written.written-2d (settings_of settings) changes ends out out' (length c.changes) (places_in c.ends c.marks) roomy.store (enough-places changes ends c roomy)
    k' (Group3.told-2d columns (length ends) settings wide narrow s) done here.size here.bits)
  where
    here : Answers (write_2d k' settings.columns changes ends out) out w out'
    here = subst (λ (n : ℕ). Answers (write_2d k' n changes ends out) out w out') (sym s.same_columns) written

    done : (write_2d k' settings.columns changes ends out).number ≡ complete
    done = sym (ap (λ (x : Answer). x.number) here.answer) ∙ z

    end_is : w.bytes ≡ (write_2d k' settings.columns changes ends out).end
    end_is = ap (λ (x : Answer). x.bytes) here.answer

    wide : 0 < columns
    wide = Group3.wide (mixed k') (leb 1 k' && leb k' 65535) columns changes ends out w out' narrow written z
