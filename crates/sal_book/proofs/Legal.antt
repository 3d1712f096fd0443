-- What books release is legal.
use Rattle.std.proofs.Common.{◌≡◌, Bool, true, false, cond, ◌&&◌, List, [], ◌∷◌, map, refl, ap, ◌∙◌}
use Rattle.std.specs.Prelude.{if◌then◌else◌, filter}
use Rattle.std.specs.List.{list_all}
use Rattle.sal_value.specs.declared.value.Value.{Value}
use Rattle.sal_value.specs.Spelling.{is_legal}
use Rattle.sal_mail.specs.declared.message.Reply.{Reply}
use Rattle.sal_mail.specs.declared.message.Reply.TheVariants.{Nobody, Tok, Place, Outside}
use Rattle.sal_mail.specs.declared.message.Join.{Join}
use Rattle.sal_mail.specs.Message.{is_full}
use Rattle.sal_book.specs.Book.{Book, is_legal_reply, join_reply, full_replies, filled_joins, released_by_legal, none_released}
use Rattle.sal_book.specs.Laws.{ReleasesAreLegal}

filter_passes : {A : Type 0} (p : A → Bool) (xs : List A) → list_all p (filter p xs) ≡ true
filter_passes p [] = refl
filter_passes {A} p (x ∷ xs) = at (p x) refl (filter_passes p xs)
  where
    at : (b : Bool) → p x ≡ b → list_all p (filter p xs) ≡ true → list_all p (cond b (x ∷ filter p xs) (filter p xs)) ≡ true
    at true e rest = ap (λ (b : Bool). b && list_all p (filter p xs)) e ∙ rest
    at false e rest = rest

legal_replies : (js : List Join) → list_all is_legal_reply (full_replies js) ≡ true
legal_replies js = filter_passes is_legal_reply (map join_reply (filter is_full js))

legal_given : (reply : Reply) (value : Value) (b : Book) → list_all is_legal_reply (released_by_legal reply value b).replies ≡ true
legal_given Nobody value b = refl
legal_given (Outside number) value b = refl
legal_given (Tok maker number) value b = refl
legal_given (Place maker number at) value b = legal_replies (filled_joins number at value b.joins)

any_given : (reply : Reply) (value : Value) (b : Book) (c : Bool) → list_all is_legal_reply (if c then released_by_legal reply value b else none_released).replies ≡ true
any_given reply value b true = legal_given reply value b
any_given reply value b false = refl

pub releases_legal : ReleasesAreLegal
releases_legal = record { entry = λ messages joins. legal_replies joins; reply = λ reply value b. any_given reply value b (is_legal value) }
