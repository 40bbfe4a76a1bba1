-- `listing::text` meets its contract. Assumes nothing.
use mathlib.Core.Path.{◌∙◌, ap, subst}
use native.Mathlib.Omega.{arith}
use lib.ListN.{length-drop}
use Rattle.listing.proofs.Answering.{printed, lent-rest, bad_line, too_long, a-page}
use Rattle.listing.specs.Program.{page_text}
use Rattle.settings.specs.Settings.{settings_of}
use Rattle.listing_text.specs.Sheet.{bad_input}
use Rattle.listing_text.specs.Text.{ascii}
use Rattle.listing_text.specs.Line.{Says}
use Rattle.std.specs.Prelude.{Some}
use Rattle.listing.proofs.text.Goals as goal

pub bad_input-requires : goal.bad_input-requires
unfolding bad_input ascii
bad_input-requires c = record { fits = omega (arith, c.requires) }

pub returns-in_default : goal.returns-in_default
returns-in_default c =
    let p = printed c.bad_input.ensures in
    record { prefix_len = p.0; answers = bad_line (subst (Says c.args.input.now) c.in_default.is c.parse.ensures) p.1 }

pub slice_bounds-src-count : goal.slice_bounds-src-count
slice_bounds-src-count c = ((let h-said : Says c.args.input.now (Some c.in-Some.parsed) = subst (Says c.args.input.now) c.in-Some.is c.parse.ensures in h-said)).1

pub slice_bounds-src-start : goal.slice_bounds-src-start
slice_bounds-src-start c = omega (arith, ((let h-said : Says c.args.input.now (Some c.in-Some.parsed) = subst (Says c.args.input.now) c.in-Some.is c.parse.ensures in h-said)).1)

pub bad_input-requires-then-src-gt16384 : goal.bad_input-requires-then-src-gt16384
unfolding bad_input ascii
bad_input-requires-then-src-gt16384 c = record { fits = omega (arith, c.requires) }

pub returns-then-src-gt16384 : goal.returns-then-src-gt16384
returns-then-src-gt16384 c =
    let at = c.in-Some.parsed.at in
    let p = printed c.bad_input-then-src-gt16384.ensures in
    record { prefix_len = p.0; answers = too_long c.in-Some.parsed ((let h-said : Says c.args.input.now (Some c.in-Some.parsed) = subst (Says c.args.input.now) c.in-Some.is c.parse.ensures in h-said)) (omega (arith, c.if-src-gt16384.true, length-drop at c.args.input.now)) p.1 }

pub returns : goal.returns
returns c =
    let input = c.args.input.now in
    let s = c.in-Some.parsed.settings in
    let at = c.in-Some.parsed.at in
    let p = printed c.page.ensures in
    record { prefix_len = p.0; answers = a-page c.in-Some.parsed ((let h-said : Says c.args.input.now (Some c.in-Some.parsed) = subst (Says c.args.input.now) c.in-Some.is c.parse.ensures in h-said)) (omega (arith, c.if-src-gt16384.false, length-drop at input)) (p.1 ∙ ap (page_text (settings_of s)) (lent-rest input at)) }
