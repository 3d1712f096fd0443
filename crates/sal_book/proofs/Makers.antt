-- Whose messages a book keeps.
use Rattle.std.proofs.Common.{◌≡◌, ℕ, zero, suc, ◌<◌, Bool, true, false, List, [], ◌∷◌, ◌++◌, map, length, arith}
use Rattle.std.specs.Prelude.{if◌then◌else◌, filter, All, slice_index_or}
use Rattle.std.proofs.lemmas.List.Elements.{All-nil, All-filter}
use Rattle.sal_value.specs.declared.name.Name.{Name}
use Rattle.sal_value.specs.declared.value.Value.{Value}
use Rattle.sal_value.specs.Spelling.{is_legal}
use Rattle.sal_mail.specs.declared.message.Reply.{Reply}
use Rattle.sal_mail.specs.declared.message.Reply.TheVariants.{Nobody, Tok, Place, Outside}
use Rattle.sal_mail.specs.declared.message.Message.{Message}
use Rattle.sal_mail.specs.Message.{with_reply}
use Rattle.sal_book.specs.Book.{Book, is_waiting, book_after_legal}
use Rattle.sal_book.specs.Laws.{AreMadeBy, BooksKeepTheirMaker}

module _ {X : Type 0} (P : X → Type 0) where
  -- of the first item and of each later one
  pub all_cons : (x : X) (xs : List X) → P x → All P xs → All P (x ∷ xs)
  all_cons x xs first rest = at
    where
      at : (k : ℕ) (d : X) → k < length (x ∷ xs) → P (slice_index_or (x ∷ xs) k d)
      at zero d lt = first
      at (suc k) d lt = rest k d (omega arith)

  pub all_head : (x : X) (xs : List X) → All P (x ∷ xs) → P x
  all_head x xs all = all 0 x (omega arith)

  pub all_tail : (x : X) (xs : List X) → All P (x ∷ xs) → All P xs
  all_tail x xs all = λ k d lt. all (suc k) d (omega arith)

  all_append : (xs ys : List X) → All P xs → All P ys → All P (xs ++ ys)
  all_append [] ys a b = b
  all_append (x ∷ xs) ys a b = all_cons x (xs ++ ys) (all_head x xs a) (all_append xs ys (all_tail x xs a) b)

with_reply_made : (maker : Name) (number : ℕ) (value : Value) (ms : List Message) → AreMadeBy maker ms → AreMadeBy maker (map (with_reply number value) ms)
with_reply_made maker number value [] all = All-nil (λ m. m.maker ≡ maker)
with_reply_made maker number value (m ∷ ms) all =
    all_cons (λ m. m.maker ≡ maker) (with_reply number value m) (map (with_reply number value) ms) (all_head (λ m. m.maker ≡ maker) m ms all)
    (with_reply_made maker number value ms (all_tail (λ m. m.maker ≡ maker) m ms all))

legal_made : (maker : Name) (reply : Reply) (value : Value) (b : Book) → AreMadeBy maker b.messages → AreMadeBy maker (book_after_legal reply value b).messages
legal_made maker Nobody value b all = all
legal_made maker (Outside number) value b all = all
legal_made maker (Tok owner number) value b all =
    All-filter is_waiting (λ m. m.maker ≡ maker) (map (with_reply number value) b.messages) (with_reply_made maker number value b.messages all)
legal_made maker (Place owner number at) value b all = all

reply_made : (maker : Name) (reply : Reply) (value : Value) (b : Book) (c : Bool) → AreMadeBy maker b.messages → AreMadeBy maker (if c then book_after_legal reply value b else b).messages
reply_made maker reply value b true all = legal_made maker reply value b all
reply_made maker reply value b false all = all

pub makers_stay : BooksKeepTheirMaker
makers_stay = record {
  entry = λ maker messages joins b old new. all_append (λ m. m.maker ≡ maker) b.messages (filter is_waiting messages) old (All-filter is_waiting (λ m. m.maker ≡ maker) messages new);
  reply = λ maker reply value b all. reply_made maker reply value b (is_legal value) all;
}
