-- Putting bits bit by bit: what is left to put comes to what there was to put. Runs, lines and pages are put by these laws alone.
-- Assumes nothing.
use mathlib.Core.Path.{◌≡◌, refl, sym, ap, ◌∙◌, subst}
use mathlib.Core.Bool.{Bool, true, false, true≢false}
use mathlib.Core.List.{List, [], ◌++◌, append_assoc, append-nil}
use Prim.Native.Nat.{ℕ, ◌+◌, ◌-◌, ◌*◌, ◌≤◌}
use native.Mathlib.Omega.{arith}
use lib.ListN.{length, drop, take, length-append, length-replicate}
use Rattle.rules.specs.Bits.{bits_for, bits_of}
use Rattle.rules.specs.Rows.{bytes_to}
use Rattle.rules.specs.Write.{to_byte, written_at}
use Rattle.rules.proofs.Bits.{length-bits_for, length-bits_of}
use Rattle.tables.specs.declared.Code.{Code}
use Rattle.writer.specs.Putting.{splice, behind, inked, Splices, Sound, Spells, Room, Puts}
use Rattle.writer.proofs.Splicing.{splice-splice}

-- ---- What is written

length-to_byte : (n : ℕ) → length (to_byte n) ≡ bytes_to n * 8 - n
unfolding to_byte
length-to_byte n = length-replicate (bytes_to n * 8 - n) false

-- what is written at a bit is spliced in, with zeros to the byte's end
pub written-splice : (at : ℕ) (xs bs : List Bool) → written_at at xs bs ≡ splice at (behind at xs) bs
unfolding written_at splice
written-splice at xs bs = ap (λ (n : ℕ). take at bs ++ (behind at xs ++ drop n bs)) ends
  where
    ends : bytes_to (at + length xs) * 8 ≡ at + length (behind at xs)
    ends = omega (arith, length-append xs (to_byte (at + length xs)), length-to_byte (at + length xs))

-- bits, and then bits behind them
inked-next : (write : Bool) (at : ℕ) (xs ys bs : List Bool) (n : ℕ) → length bs ≡ 8 * n → (write ≡ true → at + length xs ≤ 8 * n)
    → inked write (at + length xs) ys (inked write at xs bs) ≡ inked write at (xs ++ ys) bs
unfolding inked
inked-next false at xs ys bs n e h = refl
inked-next true at xs ys bs n e h =
    written-splice (at + length xs) ys (written_at at xs bs)
    ∙ ap (splice (at + length xs) us) (written-splice at xs bs)
    ∙ splice-splice at bs xs (to_byte (at + length xs)) us (rw length-to_byte (omega (arith, h refl)))
    (omega (arith, length-append ys (to_byte (at + length xs + length ys)), length-to_byte (at + length xs), length-to_byte (at + length xs + length ys)))
    ∙ ap (λ (l : List Bool). splice at l bs) same
    ∙ sym (written-splice at (xs ++ ys) bs)
  where
    us : List Bool
    us = behind (at + length xs) ys

    same : xs ++ behind (at + length xs) ys ≡ behind at (xs ++ ys)
    same =
        sym (append_assoc xs ys (to_byte (at + length xs + length ys)))
        ∙ ap (λ (m : ℕ). (xs ++ ys) ++ to_byte m) (let q : at + length xs + length ys ≡ at + length (xs ++ ys) = omega (arith, length-append xs ys) in q)

-- ---- One code

module _ (code : Code) where
  abbrev ours : List Bool
  ours = bits_for code.size code.word

  module _ (write : Bool) (at : ℕ) (out out' : List ℕ) where
    -- written
    pub put_written : write ≡ true → Splices at (behind at ours) out out' → Puts write at ours out (at + code.size) out'
    unfolding inked
    put_written e s = record {
      next = ap (λ (n : ℕ). at + n) (sym (length-bits_for code.size code.word));
      bits = rw e (s.bits ∙ sym (written-splice at ours (bits_of out)));
      size = s.size;
      kept = λ f. absurd (true≢false (sym e ∙ f));
    }

    -- only counted
    pub put-counted : write ≡ false → out' ≡ out → Puts write at ours out (at + code.size) out'
    unfolding inked
    put-counted e f = record {
      next = ap (λ (n : ℕ). at + n) (sym (length-bits_for code.size code.word));
      bits = rw e (ap bits_of f);
      size = ap length f;
      kept = λ _. f;
    }

-- a code of some bits needs their room,
pub code-room : {code : Code} {xs : List Bool} {write : Bool} {at bytes : ℕ} → Spells code xs → Room write at (length xs) bytes
    → Room write at code.size bytes
code-room {code} {xs} {write} {at} {bytes} s = subst (λ (n : ℕ). Room write at n bytes) (ap length (sym s.bits) ∙ length-bits_for code.size code.word)

-- and puts them
pub code-puts : {code : Code} {xs : List Bool} {write : Bool} {at r : ℕ} {out out' : List ℕ} → Spells code xs
    → Puts write at (bits_for code.size code.word) out r out' → Puts write at xs out r out'
code-puts {code} {xs} {write} {at} {r} {out} {out'} s = subst (λ (l : List Bool). Puts write at l out r out') s.bits

-- ---- What is left

-- to put xs at `at` comes to putting all of it at `from`, where the output was `start`
pub record Owes (write : Bool) (at : ℕ) (xs : List Bool) (out : List ℕ) (from : ℕ) (all : List Bool) (start : List ℕ) : Type 0 where
  pub same : inked write at xs (bits_of out) ≡ inked write from all (bits_of start)
  pub count : at + length xs ≡ from + length all
  pub size : length out ≡ length start
  pub kept : write ≡ false → out ≡ start

-- at the start all is left
pub owes-all : (write : Bool) (at : ℕ) (xs : List Bool) (out : List ℕ) → Owes write at xs out at xs out
owes-all write at xs out = record { same = refl; count = refl; size = refl; kept = λ e. refl }

module _ {write : Bool} {at : ℕ} {left : List Bool} {out : List ℕ} {from : ℕ} {all : List Bool} {start : List ℕ}
    (owes : Owes write at left out from all start) where
  -- what comes first of what is left has room, where all of it has
  module _ (xs ys : List Bool) (e : left ≡ xs ++ ys) where
    first-inside : (write ≡ true → from + length all ≤ 8 * length start) → write ≡ true → at + length xs ≤ 8 * length out
    first-inside h w = omega (arith, h w, owes.count, owes.size, simp length-append at (ap length e))

    pub first-room : Room write from (length all) (length start) → Room write at (length xs) (length out)
    first-room room = record {
      countable = omega (arith, room.countable, owes.count, simp length-append at (ap length e));
      inside = first-inside room.inside;
    }

    -- and once it is put, the others are left
    pub owes-put : {r : ℕ} {out' : List ℕ} → (write ≡ true → from + length all ≤ 8 * length start) → Puts write at xs out r out'
        → Owes write r ys out' from all start
    owes-put {r} {out'} h p = record {
      same =
          rw (p.next, p.bits)
          (inked-next write at xs ys (bits_of out) (length out) (length-bits_of out) (first-inside h)
          ∙ ap (λ (l : List Bool). inked write at l (bits_of out)) (sym e)
          ∙ owes.same);
      count = omega (arith, p.next, owes.count, simp length-append at (ap length e));
      size = p.size ∙ owes.size;
      kept = λ w. p.kept w ∙ owes.kept w;
    }

  -- what is left has room, where all of it has
  pub last-room : (xs : List Bool) → left ≡ xs → Room write from (length all) (length start) → Room write at (length xs) (length out)
  last-room xs e room = record {
    countable = omega (arith, room.countable, owes.count, ap length e);
    inside = λ w. omega (arith, room.inside w, owes.count, owes.size, ap length e);
  }

  -- and once it is put, all is
  pub owes-last : (xs : List Bool) {r : ℕ} {out' : List ℕ} → left ≡ xs → Puts write at xs out r out' → Puts write from all start r out'
  owes-last xs e p = record {
    next = omega (arith, p.next, owes.count, ap length e);
    bits = p.bits ∙ ap (λ (l : List Bool). inked write at l (bits_of out)) (sym e) ∙ owes.same;
    size = p.size ∙ owes.size;
    kept = λ w. p.kept w ∙ owes.kept w;
  }

-- ---- A code of what is left

module _ {write : Bool} {at : ℕ} {left : List Bool} {out : List ℕ} {from : ℕ} {all : List Bool} {start : List ℕ}
    (owes : Owes write at left out from all start)
    {code : Code} {xs : List Bool} (s : Spells code xs) where
  -- the code that comes first can be put, and then the others are left
  pub first_code : (ys : List Bool) → left ≡ xs ++ ys → Room write from (length all) (length start) → Room write at code.size (length out) × Sound code
  first_code ys e room = (code-room s (first-room owes xs ys e room), s.sound)

  pub owes-code : (ys : List Bool) → left ≡ xs ++ ys → (write ≡ true → from + length all ≤ 8 * length start)
      → {r : ℕ} {out' : List ℕ} → Puts write at (bits_for code.size code.word) out r out' → Owes write r ys out' from all start
  owes-code ys e inside p = owes-put owes xs ys e inside (code-puts s p)

  -- the last one can be put, and then all is
  pub last_code : left ≡ xs → Room write from (length all) (length start) → Room write at code.size (length out) × Sound code
  last_code e room = (code-room s (last-room owes xs e room), s.sound)

  pub puts-all : left ≡ xs → {r : ℕ} {out' : List ℕ} → Puts write at (bits_for code.size code.word) out r out' → Puts write from all start r out'
  puts-all e p = owes-last owes xs e (code-puts s p)

-- ---- Zeros

-- behind bits that were put the last byte has zeros already
pub puts-zeros : {write : Bool} {at : ℕ} {xs : List Bool} {out : List ℕ} {r : ℕ} {out' : List ℕ} → (write ≡ true → at + length xs ≤ 8 * length out)
    → Puts write at xs out r out' → inked write r [] (bits_of out') ≡ bits_of out'
puts-zeros {write} {at} {xs} {out} h p =
    rw (p.next, p.bits)
    (inked-next write at xs [] (bits_of out) (length out) (length-bits_of out) h ∙ ap (λ (l : List Bool). inked write at l (bits_of out)) (append-nil xs))
