-- `form_file::said::by_word` meets its contract: the first word that fits, behind those that do not.
use Rattle.std.proofs.Common.{sym, ◌∙◌, refl}
use Rattle.listing_text.specs.Text.{ascii}
use Rattle.form_file.proofs.Saying.{Not1, Not2, Not3, Not4, Not5, Not6, Not7, Not8, Not9, by-tens, by_units, by-page, by-tick, by-doubt, by-black, by-white, by-proper, by-shift, by-none}
use Rattle.form_file.proofs.said.by_word.Goals as goal

pub returns-then-same : goal.returns-then-same
unfolding ascii
returns-then-same c ns h =
    let w = c.args.word.now in
    by-tens w ns _ (sym c.same.ensures ∙ c.if-same.true) (c.square.ensures ns h)

pub returns-then-same-2 : goal.returns-then-same-2
unfolding ascii
returns-then-same-2 c ns h =
    let w = c.args.word.now in
    let n1 : Not1 w = sym c.same.ensures ∙ c.if-same.false in
    by_units w ns _ n1 (sym c.same-2.ensures ∙ c.if-same-2.true) (c.square-then-same-2.ensures ns h)

pub returns-then-same-3 : goal.returns-then-same-3
unfolding ascii
returns-then-same-3 c ns h =
    let w = c.args.word.now in
    let n1 : Not1 w = sym c.same.ensures ∙ c.if-same.false in
    let n2 : Not2 w = (n1, sym c.same-2.ensures ∙ c.if-same-2.false) in
    by-page w ns _ n2 (sym c.same-3.ensures ∙ c.if-same-3.true) (c.page_in.ensures ns h)

pub returns-then-same-4 : goal.returns-then-same-4
unfolding ascii
returns-then-same-4 c ns h =
    let w = c.args.word.now in
    let n1 : Not1 w = sym c.same.ensures ∙ c.if-same.false in
    let n2 : Not2 w = (n1, sym c.same-2.ensures ∙ c.if-same-2.false) in
    let n3 : Not3 w = (n2, sym c.same-3.ensures ∙ c.if-same-3.false) in
    by-tick w ns _ n3 (sym c.same-4.ensures ∙ c.if-same-4.true) (c.tick_in.ensures ns h)

pub returns-then-same-5 : goal.returns-then-same-5
unfolding ascii
returns-then-same-5 c ns h =
    let w = c.args.word.now in
    let n1 : Not1 w = sym c.same.ensures ∙ c.if-same.false in
    let n2 : Not2 w = (n1, sym c.same-2.ensures ∙ c.if-same-2.false) in
    let n3 : Not3 w = (n2, sym c.same-3.ensures ∙ c.if-same-3.false) in
    let n4 : Not4 w = (n3, sym c.same-4.ensures ∙ c.if-same-4.false) in
    by-doubt w ns _ n4 (sym c.same-5.ensures ∙ c.if-same-5.true) (c.doubt_in.ensures ns h)

pub returns-then-same-6 : goal.returns-then-same-6
unfolding ascii
returns-then-same-6 c ns h =
    let w = c.args.word.now in
    let n1 : Not1 w = sym c.same.ensures ∙ c.if-same.false in
    let n2 : Not2 w = (n1, sym c.same-2.ensures ∙ c.if-same-2.false) in
    let n3 : Not3 w = (n2, sym c.same-3.ensures ∙ c.if-same-3.false) in
    let n4 : Not4 w = (n3, sym c.same-4.ensures ∙ c.if-same-4.false) in
    let n5 : Not5 w = (n4, sym c.same-5.ensures ∙ c.if-same-5.false) in
    by-black w ns _ n5 (sym c.same-6.ensures ∙ c.if-same-6.true) (c.place_in.ensures ns h)

pub returns-then-same-7 : goal.returns-then-same-7
unfolding ascii
returns-then-same-7 c ns h =
    let w = c.args.word.now in
    let n1 : Not1 w = sym c.same.ensures ∙ c.if-same.false in
    let n2 : Not2 w = (n1, sym c.same-2.ensures ∙ c.if-same-2.false) in
    let n3 : Not3 w = (n2, sym c.same-3.ensures ∙ c.if-same-3.false) in
    let n4 : Not4 w = (n3, sym c.same-4.ensures ∙ c.if-same-4.false) in
    let n5 : Not5 w = (n4, sym c.same-5.ensures ∙ c.if-same-5.false) in
    let n6 : Not6 w = (n5, sym c.same-6.ensures ∙ c.if-same-6.false) in
    by-white w ns _ n6 (sym c.same-7.ensures ∙ c.if-same-7.true) (c.place_in-then-same-7.ensures ns h)

pub returns-then-same-8 : goal.returns-then-same-8
unfolding ascii
returns-then-same-8 c ns h =
    let w = c.args.word.now in
    let n1 : Not1 w = sym c.same.ensures ∙ c.if-same.false in
    let n2 : Not2 w = (n1, sym c.same-2.ensures ∙ c.if-same-2.false) in
    let n3 : Not3 w = (n2, sym c.same-3.ensures ∙ c.if-same-3.false) in
    let n4 : Not4 w = (n3, sym c.same-4.ensures ∙ c.if-same-4.false) in
    let n5 : Not5 w = (n4, sym c.same-5.ensures ∙ c.if-same-5.false) in
    let n6 : Not6 w = (n5, sym c.same-6.ensures ∙ c.if-same-6.false) in
    let n7 : Not7 w = (n6, sym c.same-7.ensures ∙ c.if-same-7.false) in
    by-proper w ns _ n7 (sym c.same-8.ensures ∙ c.if-same-8.true) (c.proper_in.ensures ns h)

pub returns-then-same-9 : goal.returns-then-same-9
unfolding ascii
returns-then-same-9 c ns h =
    let w = c.args.word.now in
    let n1 : Not1 w = sym c.same.ensures ∙ c.if-same.false in
    let n2 : Not2 w = (n1, sym c.same-2.ensures ∙ c.if-same-2.false) in
    let n3 : Not3 w = (n2, sym c.same-3.ensures ∙ c.if-same-3.false) in
    let n4 : Not4 w = (n3, sym c.same-4.ensures ∙ c.if-same-4.false) in
    let n5 : Not5 w = (n4, sym c.same-5.ensures ∙ c.if-same-5.false) in
    let n6 : Not6 w = (n5, sym c.same-6.ensures ∙ c.if-same-6.false) in
    let n7 : Not7 w = (n6, sym c.same-7.ensures ∙ c.if-same-7.false) in
    let n8 : Not8 w = (n7, sym c.same-8.ensures ∙ c.if-same-8.false) in
    by-shift w ns _ n8 (sym c.same-9.ensures ∙ c.if-same-9.true) (c.shift_in.ensures ns h)

pub returns : goal.returns
unfolding ascii
returns c ns h =
    let w = c.args.word.now in
    let n1 : Not1 w = sym c.same.ensures ∙ c.if-same.false in
    let n2 : Not2 w = (n1, sym c.same-2.ensures ∙ c.if-same-2.false) in
    let n3 : Not3 w = (n2, sym c.same-3.ensures ∙ c.if-same-3.false) in
    let n4 : Not4 w = (n3, sym c.same-4.ensures ∙ c.if-same-4.false) in
    let n5 : Not5 w = (n4, sym c.same-5.ensures ∙ c.if-same-5.false) in
    let n6 : Not6 w = (n5, sym c.same-6.ensures ∙ c.if-same-6.false) in
    let n7 : Not7 w = (n6, sym c.same-7.ensures ∙ c.if-same-7.false) in
    let n8 : Not8 w = (n7, sym c.same-8.ensures ∙ c.if-same-8.false) in
    let n9 : Not9 w = (n8, sym c.same-9.ensures ∙ c.if-same-9.false) in
    by-none w ns _ n9 refl
