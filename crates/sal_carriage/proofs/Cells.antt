-- The bytes of a frame's header, one by one.
use Rattle.std.proofs.Common.{◌≡◌, ℕ, List, [], ◌∷◌, ◌++◌, length, arith, refl, sym, ap, subst, ◌∙◌}
use Rattle.std.specs.Prelude.{slice_index_or}
use Rattle.std.specs.Int.{w16, w64, to_be_bytes}
use Rattle.sal_carriage.specs.Frames.{Frame, frame_header, kind_of, bit_of}

pub eight : (p rest : List ℕ) → length p ≡ 8
    → slice_index_or p 0 0 ∷ slice_index_or p 1 0 ∷ slice_index_or p 2 0 ∷ slice_index_or p 3 0 ∷ slice_index_or p 4 0 ∷ slice_index_or p 5 0 ∷ slice_index_or p 6 0 ∷ slice_index_or p 7 0 ∷ rest ≡ p ++ rest
eight [] rest e = absurd (omega arith)
eight (a ∷ []) rest e = absurd (omega arith)
eight (a ∷ b ∷ []) rest e = absurd (omega arith)
eight (a ∷ b ∷ c ∷ []) rest e = absurd (omega arith)
eight (a ∷ b ∷ c ∷ d ∷ []) rest e = absurd (omega arith)
eight (a ∷ b ∷ c ∷ d ∷ f ∷ []) rest e = absurd (omega arith)
eight (a ∷ b ∷ c ∷ d ∷ f ∷ g ∷ []) rest e = absurd (omega arith)
eight (a ∷ b ∷ c ∷ d ∷ f ∷ g ∷ h ∷ []) rest e = absurd (omega arith)
eight (a ∷ b ∷ c ∷ d ∷ f ∷ g ∷ h ∷ k ∷ []) rest e = refl
eight (a ∷ b ∷ c ∷ d ∷ f ∷ g ∷ h ∷ k ∷ x ∷ xs) rest e = absurd (omega arith)

pub header_cells : (f : Frame) (p n w s : List ℕ) (kind last : ℕ)
    → length p ≡ 8 → f.program ≡ p → n ≡ to_be_bytes w64 f.number → w ≡ to_be_bytes w64 f.wanted → s ≡ to_be_bytes w16 (length f.payload)
    → kind ≡ kind_of f.is_data → last ≡ bit_of f.last
    → slice_index_or p 0 0 ∷ slice_index_or p 1 0 ∷ slice_index_or p 2 0 ∷ slice_index_or p 3 0 ∷ slice_index_or p 4 0 ∷ slice_index_or p 5 0 ∷ slice_index_or p 6 0 ∷ slice_index_or p 7 0
    ∷ f.from ∷ f.to ∷ kind
    ∷ slice_index_or n 0 0 ∷ slice_index_or n 1 0 ∷ slice_index_or n 2 0 ∷ slice_index_or n 3 0 ∷ slice_index_or n 4 0 ∷ slice_index_or n 5 0 ∷ slice_index_or n 6 0 ∷ slice_index_or n 7 0
    ∷ slice_index_or w 0 0 ∷ slice_index_or w 1 0 ∷ slice_index_or w 2 0 ∷ slice_index_or w 3 0 ∷ slice_index_or w 4 0 ∷ slice_index_or w 5 0 ∷ slice_index_or w 6 0 ∷ slice_index_or w 7 0
    ∷ last ∷ slice_index_or s 0 0 ∷ slice_index_or s 1 0 ∷ [] ≡ frame_header f
unfolding frame_header
header_cells f p n w s kind last long e en ew es ek el =
    subst
    (λ (z : (List ℕ × List ℕ) × (List ℕ × (ℕ × ℕ))).
    slice_index_or p 0 0 ∷ slice_index_or p 1 0 ∷ slice_index_or p 2 0 ∷ slice_index_or p 3 0 ∷ slice_index_or p 4 0 ∷ slice_index_or p 5 0 ∷ slice_index_or p 6 0 ∷ slice_index_or p 7 0
    ∷ f.from ∷ f.to ∷ z.1.1.0
    ∷ slice_index_or z.0.0 0 0 ∷ slice_index_or z.0.0 1 0 ∷ slice_index_or z.0.0 2 0 ∷ slice_index_or z.0.0 3 0 ∷ slice_index_or z.0.0 4 0 ∷ slice_index_or z.0.0 5 0 ∷ slice_index_or z.0.0 6 0 ∷ slice_index_or z.0.0 7 0
    ∷ slice_index_or z.0.1 0 0 ∷ slice_index_or z.0.1 1 0 ∷ slice_index_or z.0.1 2 0 ∷ slice_index_or z.0.1 3 0 ∷ slice_index_or z.0.1 4 0 ∷ slice_index_or z.0.1 5 0 ∷ slice_index_or z.0.1 6 0 ∷ slice_index_or z.0.1 7 0
    ∷ z.1.1.1 ∷ slice_index_or z.1.0 0 0 ∷ slice_index_or z.1.0 1 0 ∷ [] ≡ frame_header f)
    (λ i. ((sym en i, sym ew i), (sym es i, (sym ek i, sym el i))))
    (eight p _ long ∙ ap (λ (z : List ℕ). z ++ f.from ∷ f.to ∷ kind_of f.is_data ∷ (to_be_bytes w64 f.number ++ (to_be_bytes w64 f.wanted ++ (bit_of f.last ∷ to_be_bytes w16 (length f.payload) ++ [])))) (sym e))
