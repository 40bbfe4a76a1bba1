-- `ccitt::decode_watched` meets its contract: each test, and then the page. Assumes nothing.
use Rattle.ccitt.proofs.Paging.{refused-6, refused-7, without_columns, page-read}
use borrow.Author.Rules.{rules}
use Rattle.ccitt.proofs.decode_watched.Goals as goal

pub returns-then-settings-eq-MOST_PIXELS : goal.returns-then-settings-eq-MOST_PIXELS
returns-then-settings-eq-MOST_PIXELS c = let s = c.args in rw c.refused.ensures (refused-6 s.src.now s.settings s.changes.now s.ends.now s.marks.now c.if-settings-eq-MOST_PIXELS.true)

pub returns-then-src-gt-MOST_BYTES : goal.returns-then-src-gt-MOST_BYTES
returns-then-src-gt-MOST_BYTES c = let s = c.args in rw c.refused-then-src-gt-MOST_BYTES.ensures (refused-7 s.src.now s.settings s.changes.now s.ends.now s.marks.now c.if-settings-eq-MOST_PIXELS.false c.if-src-gt-MOST_BYTES.true)

pub returns-then-settings-eq0 : goal.returns-then-settings-eq0
returns-then-settings-eq0 c = let s = c.args in rw c.refused-then-settings-eq0.ensures (without_columns s.src.now s.settings s.changes.now s.ends.now s.marks.now c.if-settings-eq-MOST_PIXELS.false c.if-src-gt-MOST_BYTES.false c.if-settings-eq0.true)

pub page-watched-requires : goal.page-watched-requires
page-watched-requires c =
    rw c.strict_if_exact-reading.ensures (
      record {
        size = search rules;
        wide = search rules;
        narrow = search rules;
      },
      record { of_white = c.white_lookup-white.ensures; of_black = c.black_lookup-black.ensures },
      c.pair_lookup-both.ensures,
    )

pub returns : goal.returns
returns c =
    let s = c.args in
    rw c.unless_short.ensures
    (page-read s.src.now s.settings s.changes.now s.ends.now s.marks.now c.if-settings-eq-MOST_PIXELS.false c.if-src-gt-MOST_BYTES.false c.if-settings-eq0.false (rw c.strict_if_exact-reading.ensures at c.page-watched.ensures))
