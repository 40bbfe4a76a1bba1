-- `listing::answer` meets its contract: the bytes that were asked for decide. Assumes nothing.
use mathlib.Core.Path.{sym}
use native.Mathlib.Omega.{arith}
use lib.ListN.{length}
use lib.Seq.{length-take-le}
use Rattle.listing.proofs.Answering.{answers-read}
use Rattle.listing.proofs.answer.Goals as goal

pub slice_bounds-text-end : goal.slice_bounds-text-end
slice_bounds-text-end c =
    sym (length-take-le c.args.got c.args.input.now (omega (arith, c.requires.1)))

pub returns : goal.returns
returns c =
    let told = c.text.ensures in
    record { prefix_len = told.prefix_len; answers_read = answers-read (length c.args.input.now) c.requires.0 told.answers }
