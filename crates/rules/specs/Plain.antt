-- The plain engine (02, A14): one code of a run, without a lookup. "It compares one bit after another with the code tables."
-- That it gives the lookup engine's run, bits taken and answer, on all data and from any bit, is proved (proofs/Plain.antt, `plain-is-lookup`, `plain_step`).
use Rattle.std.specs.Prelude.{Bool, true, false, cond, List, [], ◌∷◌, ℕ, suc, leb, length}
use Rattle.rules.specs.Answers.{invalid_code, unexpected_eof}
use Rattle.rules.specs.Bits.{window}
use Rattle.rules.specs.Codes.{Colour, Code, code_bits, codes_of}
use Rattle.rules.specs.Lookup.{Entry, valid, invalid, lookup}

-- what either engine says of the bits that it stands before: the run of the code and how many bits it took; or the number of its answer (1 or 2),
-- and how many bits it took before it gave up
pub data Found : Type 0 where
  found : ℕ → ℕ → Found
  lost : ℕ → ℕ → Found

-- ---- By comparing one bit after another

-- a code that has agreed with every bit so far: its bits still to come, and its run
pub data Candidate : Type 0 where
  candidate : List Bool → ℕ → Candidate

-- before the first bit every code of a table is one
unfoldable pub candidates : List Code → List Candidate
candidates [] = []
candidates (c ∷ cs) = candidate (code_bits c) c.run ∷ candidates cs

-- those whose next bit is this one
unfoldable pub agreeing : Bool → List Candidate → List Candidate
agreeing b [] = []
agreeing b (candidate [] run ∷ cs) = agreeing b cs
agreeing true (candidate (true ∷ xs) run ∷ cs) = candidate xs run ∷ agreeing true cs
agreeing true (candidate (false ∷ xs) run ∷ cs) = agreeing true cs
agreeing false (candidate (true ∷ xs) run ∷ cs) = agreeing false cs
agreeing false (candidate (false ∷ xs) run ∷ cs) = candidate xs run ∷ agreeing false cs

-- what the candidates say: none is left; one has all its bits, so it is the code; or more bits are needed to tell
pub data Verdict : Type 0 where
  no_code : Verdict
  is_code : ℕ → Verdict
  more_bits : Verdict

-- one more that has bits to come
abbrev pub or_more_bits : Verdict → Verdict
or_more_bits no_code = more_bits
or_more_bits (is_code run) = is_code run
or_more_bits more_bits = more_bits

unfoldable pub verdict : List Candidate → Verdict
verdict [] = no_code
verdict (candidate [] run ∷ cs) = is_code run
verdict (candidate (x ∷ xs) run ∷ cs) = or_more_bits (verdict cs)

-- Bit after bit, of which `taken` came before: 1 where no code agrees any more, 2 where the data ends first.
unfoldable pub compare : ℕ → List Candidate → List Bool → Found
compare taken cs [] = lost unexpected_eof taken
compare taken cs (b ∷ bs) =
    elim (verdict (agreeing b cs)) [
      | no_code ↦ lost invalid_code (suc taken)
      | is_code run ↦ found run (suc taken)
      | more_bits ↦ compare (suc taken) (agreeing b cs) bs
    ]

-- the code at the front of some bits
unfoldable pub plain : Colour → List Bool → Found
plain colour bs = compare 0 (candidates (codes_of colour)) bs

-- ---- By the lookup

-- What an entry says where so many bits are left: "An invalid entry consumes its length, then answers 1; too few bits left is 2" (01, "Codes"), and then all
-- that are left were taken ("consuming past it moves to the end", 01, "bit_reader.rs").
abbrev pub by_entry : ℕ → Entry → Found
by_entry left (valid run size) = cond (leb size left) (found run size) (lost unexpected_eof left)
by_entry left (invalid size) = cond (leb size left) (lost invalid_code size) (lost unexpected_eof left)

abbrev pub by_lookup : Colour → List Bool → Found
by_lookup colour bs = by_entry (length bs) (lookup colour (window 13 bs))
