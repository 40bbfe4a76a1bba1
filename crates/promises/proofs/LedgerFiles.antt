-- What is read of a ledger is what was written. Assumes nothing.
use mathlib.Core.Path.{sym, ◌∙◌, subst}
use native.Mathlib.Omega.{arith}
use lib.ListN.{length}
use Rattle.ledger.specs.Balance.{Balanced}
use Rattle.ledger.proofs.Balance.{books-balance}
use Rattle.ledger_file.specs.Parts.{pages_of, verdicts_of}
use Rattle.ledger_file.proofs.Apart.{no-name-twice}
use Rattle.ledger_file.proofs.Parted.{parts-add-up}
use Rattle.ledger_file.proofs.Rereading.{reread}
use Rattle.ledger_file.proofs.Resuming.{resumes}
use Rattle.promises.specs.LedgerFiles.{PageLineReadBack, RunGoesOn, PartsAddUp, NoNameTwice}

pub page-line-read-back : PageLineReadBack
page-line-read-back name v b n h = reread name v b (omega arith) (λ e. omega arith)

pub run-goes-on : RunGoesOn
run-goes-on name v b n r = resumes v b name (omega arith) r

pub parts-add-up-so : PartsAddUp
parts-add-up-so quota ps starts r starts' sum a =
    let w = parts-add-up quota ps (length starts) sum in
    let b = a.books ∙ w.books in
    record { number = a.number ∙ w.number; books = b; balanced = subst (Balanced quota (verdicts_of (pages_of ps))) (sym b) (books-balance quota (verdicts_of (pages_of ps))) }

pub no-name-twice-so : NoNameTwice
no-name-twice-so text quota starts r starts' a i j l m e = no-name-twice text quota starts r starts' a i j l m e
