-- The head of a bitmap file of one bit a pixel (BMP): 14 bytes of the file, 40 of the picture, two colours, and four zeros, so that the rows begin at
-- byte 66, a number that three divides.
use Rattle.std.specs.Prelude.{List, [], ◌∷◌, ◌++◌, ℕ, ◌+◌, ◌-◌, ◌*◌, ◌/◌, ◌%◌}

-- a number in four bytes, and in two, the lowest first
abbrev pub four : ℕ → List ℕ
four n = n % 256 ∷ (n / 256 % 256) ∷ (n / 65536 % 256) ∷ (n / 16777216 % 256) ∷ []

-- a row has whole words of 32 pixels
abbrev pub stride_of : ℕ → ℕ
stride_of columns = (columns + 31) / 32 * 4

-- rows from the top down are told by a height below zero
abbrev pub height_of : ℕ → ℕ
height_of rows = 4294967296 - rows

-- the picture's own head: its size, columns, height, one plane, one bit, no packing, bytes, no resolution, two colours, both needed
abbrev pub picture_head : ℕ → ℕ → ℕ → List ℕ
picture_head columns height bytes =
    four 40
    ++ (four columns
    ++ (four height ++ ((1 ∷ 0 ∷ 1 ∷ 0 ∷ []) ++ (four 0 ++ (four bytes ++ (four 0 ++ (four 0 ++ (four 2 ++ four 2))))))))

-- white, then black, each as blue, green, red and a zero
abbrev pub colours : List ℕ
colours = 255 ∷ 255 ∷ 255 ∷ 0 ∷ 0 ∷ 0 ∷ 0 ∷ 0 ∷ []

-- `BM`, the length of the file, a zero, and where the rows begin
unfoldable pub head_of : ℕ → ℕ → ℕ → ℕ → List ℕ
head_of columns height file bytes =
    (66 ∷ 77 ∷ []) ++ (four file ++ (four 0 ++ (four 66 ++ (picture_head columns height bytes ++ (colours ++ four 0)))))

abbrev pub bitmap_head : ℕ → ℕ → List ℕ
bitmap_head columns rows = head_of columns (height_of rows) (66 + stride_of columns * rows) (stride_of columns * rows)
