-- What is said of a page that was read, from what the store holds behind its reading. Assumes nothing.
use mathlib.Core.Path.{◌≡◌, sym, ap, ◌∙◌}
use mathlib.Core.Bool.{false}
use mathlib.Core.List.{List}
use Prim.Native.Nat.{ℕ, ◌≤◌}
use native.Mathlib.Omega.{arith}
use native.Mathlib.Nat.{min-le_left}
use lib.Dec.{eqb}
use lib.ListN.{length, take}
use borrow.Author.Tests.{ne_eqb}
use Rattle.rules.specs.Answers.{complete}
use Rattle.rules.specs.Pages as Page
use Rattle.rules.specs.Pages.{decode, places_in, ends_from, ends_after}
use Rattle.rules.specs.Proper.{parts_from, is_proper, parts_in}
use Rattle.rules.proofs.ProperRead.{Says, read-says}
use Rattle.rules.proofs.Store.{length-overlaid, length-ends}
use Rattle.rules.proofs.Stored.{decode-held, decode-modest}
use Rattle.answer.specs.declared.Answer.{Answer}
use Rattle.settings.specs.Settings.{encoding_of, settings_of}
use Rattle.settings.specs.declared.DecodeSettings.{DecodeSettings}
use Rattle.ccitt.specs.Decode.{Decodes}

module _ (s : DecodeSettings) (src xs es ms : List ℕ) (r : Answer) (ys fs ns : List ℕ) (given : Decodes src s xs es ms r ys fs ns) where
  abbrev said : Page.Answer
  said = decode (settings_of s) src (length xs) (places_in es ms)

  -- the rows that are told lie in the store, and the bytes in the data
  pub rows_inside : r.rows ≤ length fs
  unfolding ends_after
  rows_inside =
      let h = decode-held (settings_of s) src (length xs) (places_in es ms) in
      let long : length (ends_from 0 said.rows) ≤ length es = omega (arith, length-ends 0 said.rows, h.placed, min-le_left (length es) (length ms)) in
      rw (given.answer, given.ends) (omega (arith, length-overlaid (ends_from 0 said.rows) es long, length-ends 0 said.rows, long))

  pub bytes_inside : r.bytes ≤ length src
  bytes_inside = rw given.answer (decode-modest (settings_of s) src (length xs) (places_in es ms)).few_bytes

  -- a page that is not done is not proper
  module _ (fails : r.number ≡ complete → ⊥) where
    stopped : eqb said.number complete ≡ false
    stopped = ne_eqb said.number complete (λ e. fails (ap (λ (a : Answer). a.number) given.answer ∙ e))

    pub failed-proper : is_proper (settings_of s) src said ≡ false
    unfolding is_proper
    failed-proper = rw (stopped, is_proper)

    pub failed-parts : parts_in (settings_of s) src said ≡ 0
    unfolding parts_in
    failed-parts = rw (stopped, parts_in)

  -- of one that is done the store's rows tell it
  pub done-says : r.number ≡ complete
      → Says (settings_of s) src said (parts_from (encoding_of s.encoding) s.columns ys (take r.rows fs) (take r.bytes src))
  done-says e = rw (given.answer, given.changes, given.ends) (read-says (settings_of s) src xs es ms (ap (λ (a : Answer). a.number) (sym given.answer) ∙ e))
