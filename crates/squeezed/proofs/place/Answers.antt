-- Each way is a part of the squeezed lookups.
use borrow.Author.Rules.{rules}
use Rattle.rules.specs.Codes.{white, black}
use Rattle.squeezed.proofs.Squeezed.{few-white, more-white, few-black, more-black, of-picked}
use Rattle.squeezed.proofs.place.Goals as goal

pub returns-then-top-lt64 : goal.returns-then-top-lt64
returns-then-top-lt64 c = (search rules, of-picked white _ _ c.if-colour-eq0.true (few-white _ (search rules)))

pub returns-else-top-lt64 : goal.returns-else-top-lt64
returns-else-top-lt64 c = (search rules, of-picked white _ _ c.if-colour-eq0.true (more-white _ (search rules) (search rules)))

pub returns-then-top-lt512 : goal.returns-then-top-lt512
returns-then-top-lt512 c = (search rules, of-picked black _ _ c.if-colour-eq0.false (few-black _ (search rules)))

pub returns-else-top-lt512 : goal.returns-else-top-lt512
returns-else-top-lt512 c = (search rules, of-picked black _ _ c.if-colour-eq0.false (more-black _ (search rules) (search rules)))
