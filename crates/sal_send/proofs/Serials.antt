-- Of repeats the first one stays.
use Rattle.std.proofs.Common.{◌≡◌, ℕ, ◌+◌, ◌<◌, suc, List, [], ◌∷◌, ◌++◌, length, get_or, drop, drop-cons, add-one, refl, sym, ap, ◌∙◌}
use Rattle.sal_ast.specs.declared.program.Ident.{Ident}
use Rattle.sal_ast.specs.declared.statement.Property.{Property}
use Rattle.sal_handler.specs.declared.state.State.{State}
use Rattle.sal_handler.specs.declared.state.EnclosingJoin.{EnclosingJoin}
use Rattle.sal_handler.specs.Scopes.{token_named}
use Rattle.sal_handler.specs.Messages.{add_new, add_if_new, option_serials, token_serials, property_serials, waitfor_serials, serials_before_joins}

pub add_new_append : (done a b : List ℕ) → add_new done (a ++ b) ≡ add_new (add_new done a) b
add_new_append done [] b = refl
add_new_append done (n ∷ a) b = add_new_append (add_if_new done n) a b

-- the next name of a loop
pub token_step : (list : List Ident) (i : ℕ) (o : Ident) (done : List ℕ) (s : State) → i < length list → o ≡ get_or list i o → add_new done (token_serials (drop i list) s) ≡ add_new (add_new done (option_serials (token_named o.text s))) (token_serials (drop (i + 1) list) s)
token_step list i o done s h e =
    ap (λ l. add_new done (token_serials l s)) (drop-cons list i o h ∙ ap (λ x. x ∷ drop (suc i) list) (sym e))
    ∙ ap (λ n. add_new done (option_serials (token_named o.text s) ++ token_serials (drop n list) s)) (sym (add-one i))
    ∙ add_new_append done (option_serials (token_named o.text s)) (token_serials (drop (i + 1) list) s)

-- the next property of a loop
pub property_step : (list : List Property) (i : ℕ) (o : Property) (done : List ℕ) (s : State) → i < length list → o ≡ get_or list i o → add_new done (waitfor_serials (drop i list) s) ≡ add_new (add_new done (property_serials o s)) (waitfor_serials (drop (i + 1) list) s)
property_step list i o done s h e =
    ap (λ l. add_new done (waitfor_serials l s)) (drop-cons list i o h ∙ ap (λ x. x ∷ drop (suc i) list) (sym e))
    ∙ ap (λ n. add_new done (property_serials o s ++ waitfor_serials (drop n list) s)) (sym (add-one i))
    ∙ add_new_append done (property_serials o s) (waitfor_serials (drop (i + 1) list) s)

-- the next join of a loop
pub join_step : (list : List EnclosingJoin) (i : ℕ) (o : EnclosingJoin) (done : List ℕ) → i < length list → o ≡ get_or list i o → add_new done (serials_before_joins (drop i list)) ≡ add_new (add_new done (option_serials o.before)) (serials_before_joins (drop (i + 1) list))
join_step list i o done h e =
    ap (λ l. add_new done (serials_before_joins l)) (drop-cons list i o h ∙ ap (λ x. x ∷ drop (suc i) list) (sym e))
    ∙ ap (λ n. add_new done (option_serials o.before ++ serials_before_joins (drop n list))) (sym (add-one i))
    ∙ add_new_append done (option_serials o.before) (serials_before_joins (drop (i + 1) list))
