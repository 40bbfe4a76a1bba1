-- The codes of runs, as T.4 and T.6 print them. Each code is a row of three numbers: run, length, code (01, "tables.rs").
use Rattle.std.specs.Prelude.{List, [], ◌∷◌, ◌++◌, Bool, true, false, ℕ, get_or}
use Rattle.rules.specs.Bits.{bits_for}

-- the colour of a pixel, and of the run that a code stands for
pub data Colour : Type 0 where
  white black : Colour

abbrev pub opposite : Colour → Colour
opposite white = black
opposite black = white

abbrev pub differ : Colour → Colour → Bool
differ white white = false
differ white black = true
differ black white = true
differ black black = false

-- `run` pixels are written as the lowest `size` bits of `word`
pub record Code : Type 0 where
  pub run : ℕ
  pub size : ℕ
  pub word : ℕ

abbrev code : ℕ → ℕ → ℕ → Code
code r n w = record { run = r; size = n; word = w }

unfoldable pub code_bits : Code → List Bool
code_bits c = bits_for c.size c.word

-- White terminating codes (T.4 table 2/T.4, T.6 table 2/T.6).
unfoldable pub white_terminating : List Code
white_terminating =
    code 0 8 0b00110101 ∷
    code 1 6 0b000111 ∷
    code 2 4 0b0111 ∷
    code 3 4 0b1000 ∷
    code 4 4 0b1011 ∷
    code 5 4 0b1100 ∷
    code 6 4 0b1110 ∷
    code 7 4 0b1111 ∷
    code 8 5 0b10011 ∷
    code 9 5 0b10100 ∷
    code 10 5 0b00111 ∷
    code 11 5 0b01000 ∷
    code 12 6 0b001000 ∷
    code 13 6 0b000011 ∷
    code 14 6 0b110100 ∷
    code 15 6 0b110101 ∷
    code 16 6 0b101010 ∷
    code 17 6 0b101011 ∷
    code 18 7 0b0100111 ∷
    code 19 7 0b0001100 ∷
    code 20 7 0b0001000 ∷
    code 21 7 0b0010111 ∷
    code 22 7 0b0000011 ∷
    code 23 7 0b0000100 ∷
    code 24 7 0b0101000 ∷
    code 25 7 0b0101011 ∷
    code 26 7 0b0010011 ∷
    code 27 7 0b0100100 ∷
    code 28 7 0b0011000 ∷
    code 29 8 0b00000010 ∷
    code 30 8 0b00000011 ∷
    code 31 8 0b00011010 ∷
    code 32 8 0b00011011 ∷
    code 33 8 0b00010010 ∷
    code 34 8 0b00010011 ∷
    code 35 8 0b00010100 ∷
    code 36 8 0b00010101 ∷
    code 37 8 0b00010110 ∷
    code 38 8 0b00010111 ∷
    code 39 8 0b00101000 ∷
    code 40 8 0b00101001 ∷
    code 41 8 0b00101010 ∷
    code 42 8 0b00101011 ∷
    code 43 8 0b00101100 ∷
    code 44 8 0b00101101 ∷
    code 45 8 0b00000100 ∷
    code 46 8 0b00000101 ∷
    code 47 8 0b00001010 ∷
    code 48 8 0b00001011 ∷
    code 49 8 0b01010010 ∷
    code 50 8 0b01010011 ∷
    code 51 8 0b01010100 ∷
    code 52 8 0b01010101 ∷
    code 53 8 0b00100100 ∷
    code 54 8 0b00100101 ∷
    code 55 8 0b01011000 ∷
    code 56 8 0b01011001 ∷
    code 57 8 0b01011010 ∷
    code 58 8 0b01011011 ∷
    code 59 8 0b01001010 ∷
    code 60 8 0b01001011 ∷
    code 61 8 0b00110010 ∷
    code 62 8 0b00110011 ∷
    code 63 8 0b00110100 ∷
    []

-- White make-up codes (T.4 table 3a/T.4, T.6 table 3/T.6).
unfoldable pub white_makeup : List Code
white_makeup =
    code 64 5 0b11011 ∷
    code 128 5 0b10010 ∷
    code 192 6 0b010111 ∷
    code 256 7 0b0110111 ∷
    code 320 8 0b00110110 ∷
    code 384 8 0b00110111 ∷
    code 448 8 0b01100100 ∷
    code 512 8 0b01100101 ∷
    code 576 8 0b01101000 ∷
    code 640 8 0b01100111 ∷
    code 704 9 0b011001100 ∷
    code 768 9 0b011001101 ∷
    code 832 9 0b011010010 ∷
    code 896 9 0b011010011 ∷
    code 960 9 0b011010100 ∷
    code 1024 9 0b011010101 ∷
    code 1088 9 0b011010110 ∷
    code 1152 9 0b011010111 ∷
    code 1216 9 0b011011000 ∷
    code 1280 9 0b011011001 ∷
    code 1344 9 0b011011010 ∷
    code 1408 9 0b011011011 ∷
    code 1472 9 0b010011000 ∷
    code 1536 9 0b010011001 ∷
    code 1600 9 0b010011010 ∷
    code 1664 6 0b011000 ∷
    code 1728 9 0b010011011 ∷
    []

-- Black terminating codes (T.4 table 2/T.4, T.6 table 2/T.6).
unfoldable pub black_terminating : List Code
black_terminating =
    code 0 10 0b0000110111 ∷
    code 1 3 0b010 ∷
    code 2 2 0b11 ∷
    code 3 2 0b10 ∷
    code 4 3 0b011 ∷
    code 5 4 0b0011 ∷
    code 6 4 0b0010 ∷
    code 7 5 0b00011 ∷
    code 8 6 0b000101 ∷
    code 9 6 0b000100 ∷
    code 10 7 0b0000100 ∷
    code 11 7 0b0000101 ∷
    code 12 7 0b0000111 ∷
    code 13 8 0b00000100 ∷
    code 14 8 0b00000111 ∷
    code 15 9 0b000011000 ∷
    code 16 10 0b0000010111 ∷
    code 17 10 0b0000011000 ∷
    code 18 10 0b0000001000 ∷
    code 19 11 0b00001100111 ∷
    code 20 11 0b00001101000 ∷
    code 21 11 0b00001101100 ∷
    code 22 11 0b00000110111 ∷
    code 23 11 0b00000101000 ∷
    code 24 11 0b00000010111 ∷
    code 25 11 0b00000011000 ∷
    code 26 12 0b000011001010 ∷
    code 27 12 0b000011001011 ∷
    code 28 12 0b000011001100 ∷
    code 29 12 0b000011001101 ∷
    code 30 12 0b000001101000 ∷
    code 31 12 0b000001101001 ∷
    code 32 12 0b000001101010 ∷
    code 33 12 0b000001101011 ∷
    code 34 12 0b000011010010 ∷
    code 35 12 0b000011010011 ∷
    code 36 12 0b000011010100 ∷
    code 37 12 0b000011010101 ∷
    code 38 12 0b000011010110 ∷
    code 39 12 0b000011010111 ∷
    code 40 12 0b000001101100 ∷
    code 41 12 0b000001101101 ∷
    code 42 12 0b000011011010 ∷
    code 43 12 0b000011011011 ∷
    code 44 12 0b000001010100 ∷
    code 45 12 0b000001010101 ∷
    code 46 12 0b000001010110 ∷
    code 47 12 0b000001010111 ∷
    code 48 12 0b000001100100 ∷
    code 49 12 0b000001100101 ∷
    code 50 12 0b000001010010 ∷
    code 51 12 0b000001010011 ∷
    code 52 12 0b000000100100 ∷
    code 53 12 0b000000110111 ∷
    code 54 12 0b000000111000 ∷
    code 55 12 0b000000100111 ∷
    code 56 12 0b000000101000 ∷
    code 57 12 0b000001011000 ∷
    code 58 12 0b000001011001 ∷
    code 59 12 0b000000101011 ∷
    code 60 12 0b000000101100 ∷
    code 61 12 0b000001011010 ∷
    code 62 12 0b000001100110 ∷
    code 63 12 0b000001100111 ∷
    []

-- Black make-up codes (T.4 table 3a/T.4, T.6 table 3/T.6).
unfoldable pub black_makeup : List Code
black_makeup =
    code 64 10 0b0000001111 ∷
    code 128 12 0b000011001000 ∷
    code 192 12 0b000011001001 ∷
    code 256 12 0b000001011011 ∷
    code 320 12 0b000000110011 ∷
    code 384 12 0b000000110100 ∷
    code 448 12 0b000000110101 ∷
    code 512 13 0b0000001101100 ∷
    code 576 13 0b0000001101101 ∷
    code 640 13 0b0000001001010 ∷
    code 704 13 0b0000001001011 ∷
    code 768 13 0b0000001001100 ∷
    code 832 13 0b0000001001101 ∷
    code 896 13 0b0000001110010 ∷
    code 960 13 0b0000001110011 ∷
    code 1024 13 0b0000001110100 ∷
    code 1088 13 0b0000001110101 ∷
    code 1152 13 0b0000001110110 ∷
    code 1216 13 0b0000001110111 ∷
    code 1280 13 0b0000001010010 ∷
    code 1344 13 0b0000001010011 ∷
    code 1408 13 0b0000001010100 ∷
    code 1472 13 0b0000001010101 ∷
    code 1536 13 0b0000001011010 ∷
    code 1600 13 0b0000001011011 ∷
    code 1664 13 0b0000001100100 ∷
    code 1728 13 0b0000001100101 ∷
    []

-- Make-up codes of both colours, for runs above 1728 (T.4 table 3b/T.4, T.6 table 3/T.6).
unfoldable pub common_makeup : List Code
common_makeup =
    code 1792 11 0b00000001000 ∷
    code 1856 11 0b00000001100 ∷
    code 1920 11 0b00000001101 ∷
    code 1984 12 0b000000010010 ∷
    code 2048 12 0b000000010011 ∷
    code 2112 12 0b000000010100 ∷
    code 2176 12 0b000000010101 ∷
    code 2240 12 0b000000010110 ∷
    code 2304 12 0b000000010111 ∷
    code 2368 12 0b000000011100 ∷
    code 2432 12 0b000000011101 ∷
    code 2496 12 0b000000011110 ∷
    code 2560 12 0b000000011111 ∷
    []

-- a colour's terminating codes (runs 0 to 63), and its make-up codes (multiples of 64)
unfoldable pub terminating_of : Colour → List Code
unfolding white_terminating black_terminating
terminating_of white = white_terminating
terminating_of black = black_terminating

unfoldable pub makeup_of : Colour → List Code
unfolding white_makeup black_makeup common_makeup
makeup_of white = white_makeup ++ common_makeup
makeup_of black = black_makeup ++ common_makeup

-- all codes of a colour
unfoldable pub codes_of : Colour → List Code
unfolding terminating_of makeup_of
codes_of colour = terminating_of colour ++ makeup_of colour

-- the code at a place of a list of codes; past its end a code of no bits
abbrev pub code_at : List Code → ℕ → Code
code_at codes i = get_or codes i (code 0 0 0)
