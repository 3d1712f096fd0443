-- Frames: what one datagram carries.
use Rattle.std.specs.Prelude.{ℕ, Bool, ◌&&◌, not, if◌then◌else◌, nat_eq, nat_le, List, [], ◌∷◌, ◌++◌, length, take, drop, slice_index, Option, Some, None}
use Rattle.std.specs.Int.{w16, w64, to_be_bytes, from_be_bytes}
use Rattle.std.specs.List.{concat}
use Rattle.std.specs.Str.{bytes_eq}

-- A frame: the first eight bytes of the program's hash; the nodes from which and to which it goes; whether it
-- carries a fragment, and else it only acknowledges; the fragment's number; the number that its sender wants
-- next; whether the fragment is the last one of its envelope; and the fragment's bytes.
pub record Frame : Type 0 where
  pub program : List ℕ
  pub from : ℕ
  pub to : ℕ
  pub is_data : Bool
  pub number : ℕ
  pub wanted : ℕ
  pub last : Bool
  pub payload : List ℕ

-- how many bytes a fragment has at most
abbrev pub fragment_size : ℕ
fragment_size = 1024

-- the kind of a frame: 0 carries a fragment, 1 acknowledges
abbrev pub kind_of : Bool → ℕ
kind_of is_data = if is_data then 0 else 1

abbrev pub bit_of : Bool → ℕ
bit_of b = if b then 1 else 0

-- 8, 1, 1, 1, 8, 8, 1 and 2 bytes
unfoldable pub frame_header : Frame → List ℕ
frame_header f =
    concat
    (f.program ∷ (f.from ∷ f.to ∷ kind_of f.is_data ∷ []) ∷ to_be_bytes w64 f.number ∷ to_be_bytes w64 f.wanted
    ∷ (bit_of f.last ∷ []) ∷ to_be_bytes w16 (length f.payload) ∷ [])

-- and the fragment's
unfoldable pub frame_bytes : Frame → List ℕ
frame_bytes f = frame_header f ++ f.payload

-- A fragment has 1 to 1,024 bytes, and any number of 8 bytes.
abbrev pub is_data_frame : Frame → Bool
is_data_frame f = nat_le 1 (length f.payload) && nat_le (length f.payload) fragment_size

-- What only acknowledges has number 0 and no bytes, and is the last of nothing.
abbrev pub is_acknowledgement : Frame → Bool
is_acknowledgement f = nat_eq f.number 0 && (not f.last && nat_eq (length f.payload) 0)

abbrev pub is_frame : Frame → Bool
is_frame f = nat_eq (length f.program) 8 && (if f.is_data then is_data_frame f else is_acknowledgement f)

-- ---- reading

-- what stands at the places of a frame's fields
abbrev pub cut_frame : List ℕ → Frame
cut_frame bytes = record {
  program = take 8 bytes;
  from = slice_index bytes 8;
  to = slice_index bytes 9;
  is_data = nat_eq (slice_index bytes 10) 0;
  number = from_be_bytes w64 (take 8 (drop 11 bytes));
  wanted = from_be_bytes w64 (take 8 (drop 19 bytes));
  last = nat_eq (slice_index bytes 27) 1;
  payload = drop 30 bytes;
}

-- the good frame whose bytes they are
unfoldable pub frame_of : List ℕ → Option Frame
frame_of bytes = if is_frame (cut_frame bytes) && bytes_eq (frame_bytes (cut_frame bytes)) bytes then Some (cut_frame bytes) else None
