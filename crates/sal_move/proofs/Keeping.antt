-- What the table keeps where one place in it is replaced, or is the first of its name.
use Rattle.std.proofs.Common.{◌≡◌, ℕ, Bool, true, false, if◌then◌else◌, Some, None, refl, sym, ap, ◌∙◌}
use Rattle.std.specs.Prelude.{nat_lt}
use Rattle.sal_value.specs.declared.name.Uan.{Uan}
use Rattle.sal_value.specs.Order.{uan_key}
use Rattle.sal_value.specs.Table.{write}
use Rattle.sal_value.proofs.Tables.{written_same}
use Rattle.sal_move.specs.declared.places.Known.{Known}
use Rattle.sal_move.specs.Places.{Places, place_of, is_newer, is_news, with_place, newer}

abbrev pub place : ℕ → ℕ → Known
place theatre moves = record { theatre = theatre; moves = moves }

module _ (u : Uan) (theatre moves : ℕ) (t : Places) where
  -- a place of the name was known
  module _ (k k' : Known) (there : Some k ≡ place_of u t) (news : Bool) (is : ◌≡◌ {A = Bool × Known} (news, k') (newer theatre moves k)) where
    pub tells_news : news ≡ is_news u moves t
    unfolding is_news
    tells_news = ap (λ x. x.0) is ∙ at (nat_lt k.moves moves) ∙ ap (is_newer moves) there
      where
        at : (b : Bool) → (if◌then◌else◌ {A = Bool × Known} b (true, place theatre moves) (false, k)).0 ≡ b
        at true = refl
        at false = refl

    pub keeps_newer : (t' : Places) → t' ≡ write t (uan_key u) (Some k') → t' ≡ with_place u theatre moves t
    unfolding with_place is_news
    keeps_newer t' new =
        new ∙ ap (λ x. write t (uan_key u) (Some x)) (ap (λ x. x.1) is) ∙ at (nat_lt k.moves moves)
        ∙ ap (λ o. if is_newer moves o then write t (uan_key u) (Some (place theatre moves)) else t) there
      where
        at : (b : Bool) → write t (uan_key u) (Some (if◌then◌else◌ {A = Bool × Known} b (true, place theatre moves) (false, k)).1) ≡ (if b then write t (uan_key u) (Some (place theatre moves)) else t)
        at true = refl
        at false = written_same t (uan_key u) k (sym there)

  -- no place of the name was known
  module _ (none : None ≡ place_of u t) where
    pub is_first : true ≡ is_news u moves t
    unfolding is_news
    is_first = ap (is_newer moves) none

    pub keeps_first : (t' : Places) → t' ≡ write t (uan_key u) (Some (place theatre moves)) → t' ≡ with_place u theatre moves t
    unfolding with_place is_news
    keeps_first t' new = new ∙ ap (λ o. if is_newer moves o then write t (uan_key u) (Some (place theatre moves)) else t) none
