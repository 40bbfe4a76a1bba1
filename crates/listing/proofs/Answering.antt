-- Laws of the program's answer: a page is listed from its store, and one text fits an input. Assumes nothing.
use mathlib.Core.Path.{◌≡◌, sym, ap, ap₂, ◌∙◌, subst}
use mathlib.Core.List.{List}
use Prim.Native.Nat.{ℕ, ◌-◌, ◌≤◌, ◌<◌}
use native.Mathlib.Omega.{arith}
use lib.ListN.{length, take, drop, length-append, length-drop, length-take}
use lib.Seq.{take_at, take_all, length-take-le}
use Rattle.rules.specs.Rows.{Settings}
use Rattle.rules.specs.Pages as Page
use Rattle.rules.specs.Pages.{decode, places_in, overlaid}
use Rattle.settings.specs.declared.DecodeSettings.{DecodeSettings}
use Rattle.settings.specs.Settings.{settings_of}
use Rattle.answer.specs.declared.Answer.{Answer}
use Rattle.ccitt.specs.Decode.{Gives}
use Rattle.listing_text.specs.Line.{Says}
use Rattle.listing_text.specs.Sheet.{bad_input, listing_text}
use Rattle.listing_text.specs.Listed.{Listing, listing_of, Prints}
use Rattle.listing_text.specs.declared.settings_line.Parsed.{Parsed}
use Rattle.std.specs.Prelude.{Some, None}
use Rattle.listing_text.proofs.Standing.{begins-once, begins-short}
use Rattle.rules.proofs.Stored.{Holds, decode-held, rows-stored, marks-kept}
use Rattle.listing_text.proofs.Stored.{can-list}
use Rattle.listing.specs.Program.{IsPrefixLen, most_data, most_input, listed, page_text, room, Asks, Answers, AnswersRead}

-- ---- A page from its store

module _ (S : Settings) (src xs es ms : List ℕ) (e : length xs ≡ 8192) (f : length es ≡ 2048) (m : length ms ≡ 2048) {r : Answer} {ys fs ns : List ℕ}
    (g : Gives (decode S src (length xs) (places_in es ms)) xs es ms r ys fs ns) where
  abbrev page : Page.Answer
  page = decode S src (length xs) (places_in es ms)

  held : Holds (length xs) (places_in es ms) page
  held = decode-held S src (length xs) (places_in es ms)

  pub page-can : (out : List ℕ) → room ≤ length out → Listing out r ys fs ns
  page-can out h = rw (g.answer, g.changes, g.ends, g.marks) (can-list page xs es ms held out (omega arith))

  pub page-is : listing_of S.columns r ys fs ns ≡ page_text S src
  unfolding page_text
  page-is =
      rw (g.answer, g.changes, g.ends, g.marks)
      (ap₂ (λ (rows : List (List ℕ)) (marks : List ℕ). listing_text S.columns page.number rows marks page.bytes) (rows-stored page xs es ms held) (marks-kept page xs es ms held)
      ∙ ap₂ (λ (store places : ℕ). listed S (decode S src store places)) e (let p : places_in es ms ≡ 2048 = omega arith in p))

-- ---- What is printed

pub prints-as : {before xs ys : List ℕ} {r : ℕ} {after : List ℕ} → xs ≡ ys → Prints before xs r after → Prints before ys r after
prints-as {before} {r = r} {after = after} e p = subst (λ (text : List ℕ). Prints before text r after) e p

pub printed : {before text : List ℕ} {r : ℕ} {after : List ℕ} → Prints before text r after → IsPrefixLen r after × (take r after ≡ text)
unfolding overlaid
printed {before} {text} {r} {after} p = ((inside, sym (length-take-le r after inside)), front)
  where
    inside : r ≤ length after
    inside = omega (arith, p.count, ap length p.array, length-append text (drop (length text) before))

    front : take r after ≡ text
    front = ap (take r) p.array ∙ take_at text (drop (length text) before) r (sym p.count)

-- the rest of an input, as it is lent
pub lent-rest : (input : List ℕ) (at : ℕ) → take (length input - at) (drop at input) ≡ drop at input
lent-rest input at = take_all (length input - at) (drop at input) (omega (arith, length-drop at input))

module _ {input text : List ℕ} where
  pub bad_line : Says input None → text ≡ bad_input → Answers input text
  bad_line f e = record { page = λ S src a. absurd (f S a.plain src a.begins); bad = λ n. e }

  module _ (p : Parsed) (h : Says input (Some p)) where
    pub too_long : most_data < length (drop p.at input) → text ≡ bad_input → Answers input text
    too_long l e = record {
      page = λ S src a. absurd (omega (arith, a.few, ap length (begins-once input S (settings_of p.settings) a.plain p.settings.plain src (drop p.at input) a.begins h.0).2));
      bad = λ n. e;
    }

    pub a-page : length (drop p.at input) ≤ most_data → text ≡ page_text (settings_of p.settings) (drop p.at input) → Answers input text
    a-page l e = record {
      page = λ S src a. let o = begins-once input S (settings_of p.settings) a.plain p.settings.plain src (drop p.at input) a.begins h.0 in e ∙ sym (ap₂ page_text o.0 o.2);
      bad = λ n. absurd (n (settings_of p.settings) (drop p.at input) (record { plain = p.settings.plain; begins = h.0; few = l }));
    }

-- ---- The program reads no more of its input than it needs

-- So many bytes decide: an input that asks for a page is shorter, and so are its first bytes where they do.
module _ (asked : ℕ) (enough : most_input ≤ asked) where
  short : (xs : List ℕ) (S : Settings) (src : List ℕ) → Asks xs S src → length xs < asked
  short xs S src a = omega (arith, a.few, begins-short a.begins)

  module _ (input text : List ℕ) where
    whole : length input ≤ asked → take asked input ≡ input
    whole h = take_all asked input h

    answers-cut : Answers (take asked input) text → Answers input text
    answers-cut p = record {
      page = λ S src a. p.page S src (subst (λ (l : List ℕ). Asks l S src) (sym (whole (omega (arith, short input S src a)))) a);
      bad = λ n. p.bad (λ S src a. n S src (subst (λ (l : List ℕ). Asks l S src) (whole (omega (arith, short (take asked input) S src a, length-take asked input))) a));
    }

  pub answers-read : {got text : List ℕ} → Answers got text → AnswersRead asked got text
  answers-read {text = text} p input e = answers-cut input text (subst (λ (l : List ℕ). Answers l text) e p)
