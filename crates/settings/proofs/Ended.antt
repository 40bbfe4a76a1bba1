-- A row that records nothing leaves the store as it was. Assumes nothing.
use mathlib.Core.Bool.{Bool}
use mathlib.Core.Path.{◌≡◌, sym, ap, ◌∙◌}
use mathlib.Core.List.{List, [], ◌++◌}
use Prim.Native.Nat.{ℕ}
use lib.ListN.{take, drop, take-append-drop}
use Rattle.std.specs.Prelude.{Ok, Err}
use Rattle.rules.specs.Rows.{stop}
use Rattle.rules.specs.Pages.{overlaid}
use Rattle.rules.proofs.Store.{overlaid-nothing}
use Rattle.settings.specs.declared.KeptRow.{KeptRow}
use Rattle.settings.specs.declared.PageStop.{PageStop}
use Rattle.settings.specs.Between.{Row, kept_row, page_stop, row_for, RowGives}

pub unchanged : (base : ℕ) (xs : List ℕ) → xs ≡ take base xs ++ overlaid [] (drop base xs)
unchanged base xs = sym (ap (λ (ys : List ℕ). take base xs ++ ys) (overlaid-nothing (drop base xs)) ∙ take-append-drop base xs)

-- a page's end with no loose changes
pub gives-stop : (base : ℕ) (xs : List ℕ) (n place bytes : ℕ) (r : Row) → r ≡ row_for (stop n place bytes []) → RowGives base xs (stop n place bytes []) r xs
gives-stop base xs n place bytes r e = record { answer = e; store = unchanged base xs }

-- two answers that are one are so in each part
pub kept-parts : {c m a c' m' a' : ℕ} {e e' : Bool} → ◌≡◌ {A = Row} (Ok (kept_row c m a e)) (Ok (kept_row c' m' a' e')) → (c ≡ c') × (m ≡ m') × (a ≡ a') × (e ≡ e')
kept-parts {c} {m} {a} {c'} {m'} {a'} {e} {e'} q =
    let k : ◌≡◌ {A = KeptRow} (kept_row c m a e) (kept_row c' m' a' e') = cc in
    (ap (λ (r : KeptRow). r.changes) k, ap (λ (r : KeptRow). r.mark) k, ap (λ (r : KeptRow). r.at) k, ap (λ (r : KeptRow). r.eols) k)

pub stop-parts : {n p b l n' p' b' l' : ℕ} → ◌≡◌ {A = Row} (Err (page_stop n p b l)) (Err (page_stop n' p' b' l')) → (n ≡ n') × (p ≡ p') × (b ≡ b') × (l ≡ l')
stop-parts {n} {p} {b} {l} {n'} {p'} {b'} {l'} q =
    let k : ◌≡◌ {A = PageStop} (page_stop n p b l) (page_stop n' p' b' l') = cc in
    (ap (λ (s : PageStop). s.number) k, ap (λ (s : PageStop). s.place) k, ap (λ (s : PageStop). s.bytes) k, ap (λ (s : PageStop). s.loose) k)
