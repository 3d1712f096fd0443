-- Lists that are parted one item after another.
use Rattle.std.proofs.Common.{◌≡◌, ℕ, ◌+◌, ◌<◌, Bool, List, [], ◌∷◌, ◌++◌, map, take, length, get_or, sym, ap, ◌∙◌}
use Rattle.std.specs.Prelude.{filter}
use Rattle.std.proofs.lemmas.List.{map-append, take_more}
use Rattle.std.proofs.lemmas.List.Elements.{filter-append}
use Rattle.sal_value.specs.declared.value.Value.{Value}
use Rattle.sal_mail.specs.declared.message.Reply.{Reply}
use Rattle.sal_mail.specs.declared.message.Join.{Join}
use Rattle.sal_mail.specs.Message.{is_full}
use Rattle.sal_book.specs.Book.{join_reply, is_legal_reply, full_replies}

-- one item more at the end
pub filter_push : {X : Type 0} (p : X → Bool) (old new xs : List X) (x : X) → old ≡ filter p xs → new ≡ old ++ filter p (x ∷ []) → new ≡ filter p (xs ++ x ∷ [])
filter_push p old new xs x is add = add ∙ ap (λ l. l ++ filter p (x ∷ [])) is ∙ sym (filter-append p xs (x ∷ []))

full_replies-append : (js ks : List Join) → full_replies (js ++ ks) ≡ full_replies js ++ full_replies ks
full_replies-append js ks =
    ap (λ l. filter is_legal_reply (map join_reply l)) (filter-append is_full js ks)
    ∙ ap (filter is_legal_reply) (map-append join_reply (filter is_full js) (filter is_full ks))
    ∙ filter-append is_legal_reply (map join_reply (filter is_full js)) (map join_reply (filter is_full ks))

-- the same of what joins give on
pub replies_push : (old new : List (Reply × Value)) (js : List Join) (j : Join) → old ≡ full_replies js → new ≡ old ++ full_replies (j ∷ []) → new ≡ full_replies (js ++ j ∷ [])
replies_push old new js j is add = add ∙ ap (λ l. l ++ full_replies (j ∷ [])) is ∙ sym (full_replies-append js (j ∷ []))

-- one item more of a list whose items are changed
pub filter_step : {X : Type 0} (p : X → Bool) (f : X → X) (old new xs : List X) (i : ℕ) (x y : X) → i < length xs → x ≡ get_or xs i x → y ≡ f x → old ≡ filter p (map f (take i xs)) → new ≡ old ++ filter p (y ∷ [])
    → new ≡ filter p (map f (take (i + 1) xs))
filter_step p f old new xs i x y lt at changed is add =
    filter_push p old new (map f (take i xs)) y is add
    ∙ ap (λ z. filter p (map f (take i xs) ++ z ∷ [])) (changed ∙ ap f at)
    ∙ ap (filter p) (sym (map-append f (take i xs) (get_or xs i x ∷ [])))
    ∙ ap (λ l. filter p (map f l)) (sym (take_more xs i x lt))
