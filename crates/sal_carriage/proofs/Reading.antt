-- Frames and their bytes.
use Rattle.std.proofs.Common.{◌≡◌, ℕ, ◌-◌, ◌^◌, ◌<◌, ◌≤◌, Bool, true, false, ◌&&◌, List, [], ◌∷◌, ◌++◌, length, take, drop, Some, None, refl, sym, ap, ◌∙◌, arith, length-drop}
use Rattle.std.specs.Prelude.{if◌then◌else◌, nat_eq}
use Rattle.std.specs.Int.{w16, w64, to_be_bytes}
use Rattle.std.specs.List.{slice_range}
use Rattle.std.specs.Str.{bytes_eq}
use Rattle.std.proofs.lemmas.Bool.Decides.{nat_tests, same_from_decides}
use Rattle.std.proofs.lemmas.Bool.{and_parts}
use Rattle.std.proofs.lemmas.List.{take_all, take_at, take-append-drop, length-append}
use Rattle.std.proofs.lemmas.Nat.{from_be_bytes-to_be_bytes_8}
use Rattle.std.proofs.lemmas.Slice.Eq.{bytes_eq-Decides}
use Rattle.sal_carriage.specs.Frames.{Frame, kind_of, bit_of, frame_header, frame_bytes, is_frame, cut_frame, frame_of}

-- ---- lengths

pub header_length : (f : Frame) → length f.program ≡ 8 → length (frame_header f) ≡ 30
unfolding frame_header
header_length f long = omega (arith, length-append f.program (f.from ∷ f.to ∷ kind_of f.is_data ∷ (to_be_bytes w64 f.number ++ (to_be_bytes w64 f.wanted ++ (bit_of f.last ∷ to_be_bytes w16 (length f.payload) ++ [])))), long)

-- ---- a frame is read

pub range_end : (bytes : List ℕ) → slice_range bytes 30 (length bytes) ≡ drop 30 bytes
range_end bytes = take_all (length bytes - 30) (drop 30 bytes) (omega (arith, length-drop 30 bytes))

no_frame : (b c : Bool) (f : Frame) → (b ≡ true → c ≡ true → ⊥) → None ≡ (if b && c then Some f else None)
no_frame true true f never = absurd (never refl refl)
no_frame true false f never = refl
no_frame false c f never = refl

pub short_bytes : (bytes : List ℕ) → length bytes < 30 → None ≡ frame_of bytes
unfolding frame_of frame_bytes
short_bytes bytes short =
    let f : Frame = cut_frame bytes in
    no_frame (is_frame f) (bytes_eq (frame_bytes f) bytes) f (λ good same.
    let long : length f.program ≡ 8 = (let g = (and_parts (nat_eq (length f.program) 8) _ good).0 in grind (arith, nat_tests)) in
    let e : frame_bytes f ≡ bytes = (bytes_eq-Decides (frame_bytes f) bytes).0 same in
    omega (arith, short, ap length e, header_length f long, length-append (frame_header f) f.payload))

-- the bytes begin with the frame's header
pub header_tells : (f : Frame) (bytes : List ℕ) → length f.program ≡ 8 → f.payload ≡ drop 30 bytes → 30 ≤ length bytes
    → bytes_eq (frame_header f) (take 30 bytes) ≡ bytes_eq (frame_bytes f) bytes
unfolding frame_bytes
header_tells f bytes eight rest long =
    let size = header_length f eight in
    let whole = take-append-drop 30 bytes in
    let d = bytes_eq-Decides (frame_header f) (take 30 bytes) in
    let e = bytes_eq-Decides (frame_bytes f) bytes in
    same_from_decides (bytes_eq (frame_header f) (take 30 bytes)) (bytes_eq (frame_bytes f) bytes) d (
      (λ t. sym (take_at (frame_header f) f.payload 30 size) ∙ ap (take 30) (e.0 t)),
      (λ same. e.1 (ap (λ (z : List ℕ). z ++ f.payload) same ∙ ap (λ (z : List ℕ). take 30 bytes ++ z) rest ∙ whole)),
    )

-- ---- what is spelled is read again

kind_again : (b : Bool) → nat_eq (kind_of b) 0 ≡ b
kind_again true = refl
kind_again false = refl

bit_again : (b : Bool) → nat_eq (bit_of b) 1 ≡ b
bit_again true = refl
bit_again false = refl

pub cut_again : (f : Frame) → length f.program ≡ 8 → f.number < 2 ^ 64 → f.wanted < 2 ^ 64 → cut_frame (frame_bytes f) ≡ f
unfolding frame_bytes frame_header
cut_again f eight n w = at f.program eight
  where
    at : (p : List ℕ) → length p ≡ 8 → cut_frame (frame_bytes (record f { program = p })) ≡ record f { program = p }
    at [] e = absurd (omega arith)
    at (a ∷ []) e = absurd (omega arith)
    at (a ∷ b ∷ []) e = absurd (omega arith)
    at (a ∷ b ∷ c ∷ []) e = absurd (omega arith)
    at (a ∷ b ∷ c ∷ d ∷ []) e = absurd (omega arith)
    at (a ∷ b ∷ c ∷ d ∷ g ∷ []) e = absurd (omega arith)
    at (a ∷ b ∷ c ∷ d ∷ g ∷ h ∷ []) e = absurd (omega arith)
    at (a ∷ b ∷ c ∷ d ∷ g ∷ h ∷ k ∷ []) e = absurd (omega arith)
    at (a ∷ b ∷ c ∷ d ∷ g ∷ h ∷ k ∷ l ∷ []) e = λ i. record {
      program = a ∷ b ∷ c ∷ d ∷ g ∷ h ∷ k ∷ l ∷ [];
      from = f.from;
      to = f.to;
      is_data = kind_again f.is_data i;
      number = from_be_bytes-to_be_bytes_8 f.number n i;
      wanted = from_be_bytes-to_be_bytes_8 f.wanted w i;
      last = bit_again f.last i;
      payload = f.payload;
    }
    at (a ∷ b ∷ c ∷ d ∷ g ∷ h ∷ k ∷ l ∷ x ∷ xs) e = absurd (omega arith)

pub read_again : (f : Frame) → is_frame f ≡ true → f.number < 2 ^ 64 → f.wanted < 2 ^ 64 → frame_of (frame_bytes f) ≡ Some f
unfolding frame_of
read_again f good n w =
    let bytes : List ℕ = frame_bytes f in
    let long : length f.program ≡ 8 = (let g = (and_parts (nat_eq (length f.program) 8) _ good).0 in grind (arith, nat_tests)) in
    let same = cut_again f long n w in
    let fine : is_frame (cut_frame bytes) ≡ true = ap is_frame same ∙ good in
    let back : bytes_eq (frame_bytes (cut_frame bytes)) bytes ≡ true = (bytes_eq-Decides (frame_bytes (cut_frame bytes)) bytes).1 (ap frame_bytes same) in
    ap (λ b. if b && bytes_eq (frame_bytes (cut_frame bytes)) bytes then Some (cut_frame bytes) else None) fine
    ∙ ap (λ b. if b then Some (cut_frame bytes) else None) back
    ∙ ap Some same
