-- What a person looks at, as promised. Assumes nothing.
use mathlib.Core.Path.{◌≡◌, refl, sym, ◌∙◌}
use mathlib.Core.Bool.{Bool, true, false, ◌&&◌}
use Prim.Native.Nat.{◌+◌, ◌*◌, ◌/◌}
use lib.Dec.{leb}
use lib.ListN.{length}
use Rattle.look.specs.Base64.{base64}
use Rattle.look.specs.Pieces.{room_for}
use Rattle.look.proofs.Escaping.{mark-kept, escaped-lacks, lacks-nowhere}
use Rattle.look.proofs.Decoding.{read_back, parts_whole}
use Rattle.promises.specs.Looks.{NamesAreNoMarks, PicturesReadBack, PartsAreTheWhole, PiecesPinned, Base64Pinned}
use Rattle.promises.proofs.PinnedDesk.{told-once}
use native.Mathlib.Omega.{arith}

pub names-are-no-marks : NamesAreNoMarks
names-are-no-marks m e h name = lacks-nowhere m (mark-kept m e h).positive _ (escaped-lacks m (mark-kept m e h) name)

pub pictures-read-back : PicturesReadBack
pictures-read-back bytes h = read_back bytes h

pub parts-are-the-whole : PartsAreTheWhole
parts-are-the-whole front rest h = parts_whole front rest h

pub pieces-pinned : PiecesPinned
pieces-pinned can name text before r s xs ys g h = by (can && room_for name (length before)) refl
  where
    by : (t : Bool) → (can && room_for name (length before)) ≡ t → (r ≡ s) × (xs ≡ ys)
    by true e = ((g.written e).count ∙ sym (h.written e).count, (g.written e).array ∙ sym (h.written e).array)
    by false e = ((g.kept e).0 ∙ sym (h.kept e).0, (g.kept e).1 ∙ sym (h.kept e).1)

pub base64-pinned : Base64Pinned
base64-pinned bytes before r s xs ys = told-once (base64 bytes) before (leb ((length bytes + 2) / 3 * 4) (length before)) r s xs ys
