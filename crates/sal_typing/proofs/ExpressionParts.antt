-- The parts of a typed expression.
use Rattle.std.proofs.Common.{◌≡◌, ◌⊎◌, inl, inr, ℕ, Bool, true, false, not, ◌&&◌, ◌||◌, nat_eq, List, [], ◌∷◌, ◌++◌, append-nil, append_assoc, map, Option, Some, None, option_map, refl, sym, ap, subst, ◌∙◌, rules}
use Rattle.std.proofs.lemmas.Bool.{and_parts, or_cases, not-true, eqb-true, eq-eqb, true≢false}
use Rattle.sal_ast.specs.declared.program.Ident.{Ident}
use Rattle.sal_ast.specs.declared.expression.Expr.{Expr, out-Expr, the_lemmas}
use Rattle.sal_ast.specs.declared.expression.Suffix.{Suffix, out-Suffix}
use Rattle.sal_ast.specs.declared.expression.At.{At}
use Rattle.sal_ast.specs.declared.expression.Operand.{Operand}
use Rattle.sal_ast.specs.declared.expression.Expr.TheViews.{roll-Expr, roll-Suffix}
use Rattle.sal_ast.specs.declared.expression.Expr.TheOpen.{Expr-F, Suffix-F}
use Rattle.sal_ast.specs.declared.expression.Expr.TheFolds.{map-Expr, map-Suffix, fold-roll-Expr, fold-roll-Suffix}
use Rattle.sal_sorts.specs.declared.sort.Base.{Base}
use Rattle.sal_sorts.specs.declared.sort.Base.TheVariants.{Int, Boolean, Str, Actor, Void, Null}
use Rattle.sal_sorts.specs.declared.sort.Sort.{Sort}
use Rattle.sal_sorts.specs.Sorts.{is_same_base, is_same_sort, plain, is_int_sort, is_boolean_sort, is_text_sort, is_array_sort, item_sort}
use Rattle.sal_sorts.specs.Environments.{Environment, behavior_with_name, has_behavior, is_assignable, constructor_accepts, field_with_name, variable_with_name, is_handler}
use Rattle.sal_sorts.specs.Expressions as typing
use Rattle.sal_sorts.specs.Expressions.{ExprTyping, SuffixTyping, LocationTyping, OperandTyping, type_verdict, variable_verdict, permission_rules, handler_only_rules, operator_rules, operands_fit, operator_sort, level_verdict, index_rules, length_rules, suffix_rules, suffix_sort, suffixes_verdict, verdict_of_exprs, verdict_of_option, holds_if_some, location_rules, location_verdict, new_rules, by_name_rules, array_rules, number_rules, cast_fits, are_all_assignable, expr_verdict, suffix_verdict, at_verdict, operand_verdict}
use Rattle.sal_sorts.specs.Verdicts.{Verdict, Good, Bad, ◌also◌, node, no_rules, fold_nodes, verdict_of_all}
use Rattle.sal_sorts.proofs.ExpressionEquations.{operand_verdict-Operand, at_verdict-At}
use Rattle.sal_typing.specs.Known.{Each}
use Rattle.sal_typing.specs.Parts.{Pairwise, HasSort, HasSortIfAny, LevelParts, SuffixParts, SuffixesParts, LocationParts, ExprParts}
use Rattle.sal_typing.specs.Laws.{ExpressionsHaveParts}
use Rattle.sal_typing.proofs.Inverting.{good_is, good_not_bad, also_parts, node_parts, unless_parts, map_parts, rule_holds, none_left, none_right, fold_started}
use Rattle.sal_typing.proofs.Finding.{same_bytes}
use Rattle.sal_typing.proofs.Expressions.{variable_parts}

-- ---- equal types

same_base_is : (a b : Base) → is_same_base a b ≡ true → a ≡ b
same_base_is Int Int h = refl
same_base_is Boolean Boolean h = refl
same_base_is Str Str h = refl
same_base_is (Actor a) (Actor b) h = ap Actor (same_bytes a b h)
same_base_is Void Void h = refl
same_base_is Null Null h = refl
same_base_is _ _ h = absurd cc

pub same_sort_is : (a b : Sort) → is_same_sort a b ≡ true → a ≡ b
unfolding is_same_sort
same_sort_is a b h =
    let both = and_parts (is_same_base a.base b.base) (nat_eq a.dims b.dims) h in
    let e = same_base_is a.base b.base both.0 in
    let d : a.dims ≡ b.dims = eqb-true a.dims b.dims both.1 in
    let there : record { base = b.base; dims = a.dims } ≡ b = ap (λ n. record { base = b.base; dims = n }) d in
    let here : a ≡ record { base = b.base; dims = a.dims } = ap (λ x. record { base = x; dims = a.dims }) e in
    here ∙ there

pub int_is : (s : Sort) → is_int_sort s ≡ true → s ≡ plain Int
unfolding is_int_sort
int_is s h = same_sort_is s (plain Int) h

pub boolean_is : (s : Sort) → is_boolean_sort s ≡ true → s ≡ plain Boolean
unfolding is_boolean_sort
boolean_is s h = same_sort_is s (plain Boolean) h

pub text_is : (s : Sort) → is_text_sort s ≡ true → s ≡ plain Str
unfolding is_text_sort
text_is s h = same_sort_is s (plain Str) h

-- ---- lists

pub all_parts : {A P : Type 0} (part : P → Verdict A) (done : List A) (ps : List P) (out : List A) → fold_nodes part (λ p s. no_rules s) (λ p s. s.0 ++ s.1 ∷ []) (Good done) ps ≡ Good out
    → (list : List A) × Pairwise (λ p a. part p ≡ Good a) ps list × (done ++ list ≡ out)
all_parts part done [] out h = ([], tt, append-nil done ∙ good_is done out h)
all_parts {A} {P} part done (p ∷ ps) out h = by (part p) refl h (λ d. all_parts part d ps out)
  where
    by : (v : Verdict A) → part p ≡ v → fold_nodes part (λ p s. no_rules s) (λ p s. s.0 ++ s.1 ∷ []) (node (Good done also v) no_rules (λ s. s.0 ++ s.1 ∷ [])) ps ≡ Good out
        → ((d : List A) → fold_nodes part (λ p s. no_rules s) (λ p s. s.0 ++ s.1 ∷ []) (Good d) ps ≡ Good out → (list : List A) × Pairwise (λ p a. part p ≡ Good a) ps list × (d ++ list ≡ out))
        → (list : List A) × Pairwise (λ p a. part p ≡ Good a) (p ∷ ps) list × (done ++ list ≡ out)
    by (Good a) e g more = let r = more (done ++ a ∷ []) g in (a ∷ r.0, (e, r.1), sym (append_assoc done (a ∷ []) r.0) ∙ r.2)
    by (Bad v vs) e g more = let r = fold_started part (λ p s. no_rules s) (λ p s. s.0 ++ s.1 ∷ []) (Bad v vs) ps out g in good_not_bad r.0 v vs r.1

pub each_parts : {A P : Type 0} (part : P → Verdict A) (ps : List P) (out : List A) → verdict_of_all part ps ≡ Good out → Pairwise (λ p a. part p ≡ Good a) ps out
each_parts part ps out h = let r = all_parts part [] ps out h in subst (λ list. Pairwise (λ p a. part p ≡ Good a) ps list) r.2 r.1

pub pairwise_map : {X A B : Type 0} (R : A → B → Type 0) (f : X → A) (xs : List X) (bs : List B) → Pairwise R (map f xs) bs → Pairwise (λ x b. R (f x) b) xs bs
pairwise_map R f [] [] h = tt
pairwise_map R f [] (b ∷ bs) h = h
pairwise_map R f (x ∷ xs) [] h = h
pairwise_map R f (x ∷ xs) (b ∷ bs) h = (h.0, pairwise_map R f xs bs h.1)

pub exprs_parts : (es : List Expr) (env : Environment) (out : List Sort) → verdict_of_exprs (map expr_verdict es) env ≡ Good out → Pairwise (HasSort env) es out
exprs_parts es env out h = pairwise_map (λ (m : ExprTyping) s. m env false ≡ Good s) expr_verdict es out (each_parts (λ (m : ExprTyping). m env false) (map expr_verdict es) out h)

all_hold : (env : Environment) (to : Sort) (values : List Sort) → are_all_assignable env values to ≡ true → Each (λ a. is_assignable env a to ≡ true) values
all_hold env to [] h = tt
all_hold env to (v ∷ vs) h = let both = and_parts (is_assignable env v to) (are_all_assignable env vs to) h in (both.0, all_hold env to vs both.1)

-- one that may be missing
option_parts : (o : Option Expr) (env : Environment) (r : Option Sort) → verdict_of_option (option_map expr_verdict o) env ≡ Good r → holds_if_some is_text_sort r ≡ true → HasSortIfAny env o (plain Str)
option_parts None env r h t = tt
option_parts (Some e) env r h t =
    let i = map_parts (λ (x : Sort). Some x) (expr_verdict e env false) r h in
    let text : is_text_sort i.0 ≡ true = ap (holds_if_some is_text_sort) i.2 ∙ t in
    i.1 ∙ ap (λ x. Good x) (text_is i.0 text)

-- ---- operators

level_parts : (env : Environment) (ps : List Operand) (a s : Sort) → level_verdict (Good a) (map operand_verdict ps) env ≡ Good s → LevelParts ps env a s
level_parts env [] a s h = good_is a s h
level_parts env (p ∷ ps) a s h =
    let fold : Verdict Sort → Verdict Sort = λ v. level_verdict v (map operand_verdict ps) env in
    let first : OperandTyping → Verdict Sort = λ q. node (Good a also q.2 env false) (λ x. operator_rules q.1 (operands_fit env q.0 x.0 x.1)) (λ x. operator_sort q.0 x.0 x.1) in
    let V : OperandTyping → Type 0 = λ q. fold (first q) ≡ Good s in
    let here = subst V (operand_verdict-Operand p) h in
    let began = fold_started (λ (q : OperandTyping). q.2 env false) (λ q x. operator_rules q.1 (operands_fit env q.0 x.0 x.1)) (λ q x. operator_sort q.0 x.0 x.1) (first (p.op, p.at, expr_verdict p.value)) (map operand_verdict ps) s here in
    let n = node_parts (Good a also expr_verdict p.value env false) (λ x. operator_rules p.at (operands_fit env p.op x.0 x.1)) (λ x. operator_sort p.op x.0 x.1) began.0 began.1 in
    let both = also_parts (Good a) (expr_verdict p.value env false) n.part n.typed in
    let left : n.part.0 ≡ a = sym (good_is a n.part.0 both.left) in
    let fits : operands_fit env p.op a n.part.1 ≡ true = ap (λ x. operands_fit env p.op x n.part.1) (sym left) ∙ rule_holds 14 p.at (operands_fit env p.op n.part.0 n.part.1) n.keeps in
    let gives : operator_sort p.op a n.part.1 ≡ began.0 = ap (λ x. operator_sort p.op x n.part.1) (sym left) ∙ n.is in
    let rest : fold (Good (operator_sort p.op a n.part.1)) ≡ Good s = ap (λ x. fold (Good x)) gives ∙ ap fold (sym began.1) ∙ here in
    (n.part.1, both.right, fits, level_parts env ps (operator_sort p.op a n.part.1) s rest)

-- ---- suffixes

rolled_suffix : (o : Suffix) → roll-Suffix (out-Suffix o) ≡ o
rolled_suffix o = search (rules, the_lemmas)

rolled_expr : (e : Expr) → roll-Expr (out-Expr e) ≡ e
rolled_expr e = search (rules, the_lemmas)

abbrev suffix_of_parts : Suffix-F Expr Suffix At Operand → SuffixTyping
suffix_of_parts z = typing.suffix_step (map-Suffix Expr Suffix At Operand ExprTyping SuffixTyping LocationTyping OperandTyping expr_verdict suffix_verdict at_verdict operand_verdict z)

suffix_is : (x : Suffix) → suffix_verdict x ≡ suffix_of_parts (out-Suffix x)
unfolding expr_verdict suffix_verdict at_verdict operand_verdict
suffix_is x =
    ap suffix_verdict (sym (rolled_suffix x))
    ∙ fold-roll-Suffix ExprTyping SuffixTyping LocationTyping OperandTyping typing.expr_step typing.suffix_step typing.at_step typing.operand_step (out-Suffix x)

abbrev suffix_node : Environment → Verdict Sort → SuffixTyping → Verdict Sort
suffix_node env v q = node (v also verdict_of_option q.1 env) (suffix_rules q) (suffix_sort q)

one_suffix : (env : Environment) (z : Suffix-F Expr Suffix At Operand) (a s : Sort) → suffix_node env (Good a) (suffix_of_parts z) ≡ Good s → SuffixParts z env a s
one_suffix env (Suffix-F.Index at e) a s h =
    let q : SuffixTyping = (at, Some (expr_verdict e)) in
    let n = node_parts (Good a also verdict_of_option q.1 env) (suffix_rules q) (suffix_sort q) s h in
    let both = also_parts (Good a) (verdict_of_option q.1 env) n.part n.typed in
    let left : n.part.0 ≡ a = sym (good_is a n.part.0 both.left) in
    let i = map_parts (λ (x : Sort). Some x) (expr_verdict e env false) n.part.1 both.right in
    let is : item_sort n.part.0 ≡ s = ap (λ o. suffix_sort q (n.part.0, o)) i.2 ∙ n.is in
    let fits : index_rules at (is_array_sort n.part.0 && is_int_sort i.0) ≡ [] = ap (λ o. suffix_rules q (n.part.0, o)) i.2 ∙ n.keeps in
    let holds = and_parts (is_array_sort n.part.0) (is_int_sort i.0) (rule_holds 15 at (is_array_sort n.part.0 && is_int_sort i.0) fits) in
    (i.1 ∙ ap (λ x. Good x) (int_is i.0 holds.1), ap is_array_sort (sym left) ∙ holds.0, ap item_sort (sym left) ∙ is)
one_suffix env (Suffix-F.Length at) a s h =
    let q : SuffixTyping = (at, None) in
    let n = node_parts (Good a also verdict_of_option q.1 env) (suffix_rules q) (suffix_sort q) s h in
    let both = also_parts (Good a) (verdict_of_option q.1 env) n.part n.typed in
    let left : n.part.0 ≡ a = sym (good_is a n.part.0 both.left) in
    let none : None ≡ n.part.1 = good_is None n.part.1 both.right in
    let is : plain Int ≡ s = ap (λ o. suffix_sort q (n.part.0, o)) none ∙ n.is in
    let fits : length_rules at (is_array_sort n.part.0) ≡ [] = ap (λ o. suffix_rules q (n.part.0, o)) none ∙ n.keeps in
    (ap is_array_sort (sym left) ∙ rule_holds 16 at (is_array_sort n.part.0) fits, is)

suffixes_parts : (env : Environment) (xs : List Suffix) (a s : Sort) → suffixes_verdict (Good a) (map suffix_verdict xs) env ≡ Good s → SuffixesParts xs env a s
suffixes_parts env [] a s h = good_is a s h
suffixes_parts env (x ∷ xs) a s h =
    let fold : Verdict Sort → Verdict Sort = λ v. suffixes_verdict v (map suffix_verdict xs) env in
    let V : SuffixTyping → Type 0 = λ q. fold (suffix_node env (Good a) q) ≡ Good s in
    let here = subst V (suffix_is x) h in
    let began = fold_started (λ (q : SuffixTyping). verdict_of_option q.1 env) suffix_rules suffix_sort (suffix_node env (Good a) (suffix_of_parts (out-Suffix x))) (map suffix_verdict xs) s here in
    let rest : fold (Good began.0) ≡ Good s = ap fold (sym began.1) ∙ here in
    (began.0, one_suffix env (out-Suffix x) a began.0 began.1, suffixes_parts env xs began.0 s rest)

-- ---- actors

location_parts : (env : Environment) (o : Option At) → location_verdict (option_map at_verdict o) env ≡ Good tt → LocationParts o env
location_parts env None h = tt
location_parts env (Some p) h =
    let V : LocationTyping → Type 0 = λ q. location_verdict (Some q) env ≡ Good tt in
    let here = subst V (at_verdict-At p) h in
    let n = node_parts (expr_verdict p.uan env false also verdict_of_option (option_map expr_verdict p.ual) env) (location_rules p.at) (λ s. tt) tt here in
    let both = also_parts (expr_verdict p.uan env false) (verdict_of_option (option_map expr_verdict p.ual) env) n.part n.typed in
    let texts = and_parts (is_text_sort n.part.0) (holds_if_some is_text_sort n.part.1) (rule_holds 19 p.at (is_text_sort n.part.0 && holds_if_some is_text_sort n.part.1) n.keeps) in
    (both.left ∙ ap (λ x. Good x) (text_is n.part.0 texts.0), option_parts p.ual env n.part.1 both.right texts.1)

unit_is : (u : Unit {0}) → u ≡ tt
unit_is u = refl

new_parts : (env : Environment) (at : ℕ) (b : Ident) (args : List Expr) (place : Option At) (s : Sort)
    → node (verdict_of_exprs (map expr_verdict args) env also location_verdict (option_map at_verdict place) env) (λ x. handler_only_rules env at ++ new_rules at b x.0 env) (λ x. plain (Actor b.text)) ≡ Good s
    → (sorts : List Sort) × Pairwise (HasSort env) args sorts × LocationParts place env × (is_handler env.member ≡ true) × (constructor_accepts (behavior_with_name b.text env) sorts env ≡ true) × (plain (Actor b.text) ≡ s)
new_parts env at b args place s h =
    let n = node_parts (verdict_of_exprs (map expr_verdict args) env also location_verdict (option_map at_verdict place) env) (λ x. handler_only_rules env at ++ new_rules at b x.0 env) (λ x. plain (Actor b.text)) s h in
    let both = also_parts (verdict_of_exprs (map expr_verdict args) env) (location_verdict (option_map at_verdict place) env) n.part n.typed in
    let only = rule_holds 7 at (is_handler env.member) (none_left (handler_only_rules env at) (new_rules at b n.part.0 env) n.keeps) in
    let accepts = rule_holds 17 at (constructor_accepts (behavior_with_name b.text env) n.part.0 env) (none_right (handler_only_rules env at) (new_rules at b n.part.0 env) n.keeps) in
    (n.part.0, exprs_parts args env n.part.0 both.left, location_parts env place both.right, only, accepts, n.is)

-- ---- each form

abbrev pub verdict_of_form : Expr-F Expr Suffix At Operand → ExprTyping
verdict_of_form z = typing.expr_step (map-Expr Expr Suffix At Operand ExprTyping SuffixTyping LocationTyping OperandTyping expr_verdict suffix_verdict at_verdict operand_verdict z)

number_fits : (n : ℕ) (minus : Bool) → (minus || not (nat_eq n 2147483648)) ≡ true → (minus ≡ true) ⊎ (n ≡ 2147483648 → ⊥)
number_fits n minus h = by (or_cases minus (not (nat_eq n 2147483648)) h)
  where
    by : ((minus ≡ true) ⊎ (not (nat_eq n 2147483648) ≡ true)) → (minus ≡ true) ⊎ (n ≡ 2147483648 → ⊥)
    by (inl m) = inl m
    by (inr k) = inr (λ e. true≢false (sym (eq-eqb n 2147483648 e) ∙ not-true (nat_eq n 2147483648) k))

form_parts : (z : Expr-F Expr Suffix At Operand) (env : Environment) (minus : Bool) (s : Sort) → verdict_of_form z env minus ≡ Good s → ExprParts z env minus s
form_parts (Expr-F.Number n at) env minus s h =
    let r = unless_parts (number_rules n at minus) (plain Int) s h in
    (number_fits n minus (rule_holds 13 at (minus || not (nat_eq n 2147483648)) r.0), r.1)
form_parts (Expr-F.Str t at) env minus s h = good_is (plain Str) s h
form_parts (Expr-F.Bool b at) env minus s h = good_is (plain Boolean) s h
form_parts (Expr-F.Null at) env minus s h = good_is (plain Null) s h
form_parts (Expr-F.Me at) env minus s h =
    let r = unless_parts (handler_only_rules env at) (plain (Actor env.own)) s h in
    (rule_holds 7 at (is_handler env.member) r.0, r.1)
form_parts (Expr-F.Name name) env minus s h = variable_parts name.at (variable_with_name name.text env) s h
form_parts (Expr-F.Own at name) env minus s h = variable_parts name.at (field_with_name name.text env) s h
form_parts (Expr-F.Paren at e) env minus s h = h
form_parts (Expr-F.Neg at e) env minus s h =
    let n = node_parts (expr_verdict e env true) (λ x. operator_rules at (is_int_sort x)) (λ x. plain Int) s h in
    (n.typed ∙ ap (λ x. Good x) (int_is n.part (rule_holds 14 at (is_int_sort n.part) n.keeps)), n.is)
form_parts (Expr-F.Not at e) env minus s h =
    let n = node_parts (expr_verdict e env false) (λ x. operator_rules at (is_boolean_sort x)) (λ x. plain Boolean) s h in
    (n.typed ∙ ap (λ x. Good x) (boolean_is n.part (rule_holds 14 at (is_boolean_sort n.part) n.keeps)), n.is)
form_parts (Expr-F.Level first rest) env minus s h =
    let fold : Verdict Sort → Verdict Sort = λ v. level_verdict v (map operand_verdict rest) env in
    let began = fold_started (λ (q : OperandTyping). q.2 env false) (λ q x. operator_rules q.1 (operands_fit env q.0 x.0 x.1)) (λ q x. operator_sort q.0 x.0 x.1) (expr_verdict first env false) (map operand_verdict rest) s h in
    (began.0, began.1, level_parts env rest began.0 s (ap fold (sym began.1) ∙ h))
form_parts (Expr-F.Suffixed first rest) env minus s h =
    let fold : Verdict Sort → Verdict Sort = λ v. suffixes_verdict v (map suffix_verdict rest) env in
    let began = fold_started (λ (q : SuffixTyping). verdict_of_option q.1 env) suffix_rules suffix_sort (expr_verdict first env minus) (map suffix_verdict rest) s h in
    (began.0, began.1, suffixes_parts env rest began.0 s (ap fold (sym began.1) ∙ h))
form_parts (Expr-F.New at b args None) env minus s h = new_parts env at b args None s h
form_parts (Expr-F.New at b args (Some p)) env minus s h = new_parts env at b args (Some p) s h
form_parts (Expr-F.Make at t size) env minus s h =
    let n = node_parts (type_verdict t env also expr_verdict size env false) (λ x. array_rules at (is_int_sort x.1)) (λ x. x.0) s h in
    let both = also_parts (type_verdict t env) (expr_verdict size env false) n.part n.typed in
    (both.left ∙ ap (λ x. Good x) n.is, both.right ∙ ap (λ x. Good x) (int_is n.part.1 (rule_holds 18 at (is_int_sort n.part.1) n.keeps)))
form_parts (Expr-F.ListOf at t items) env minus s h =
    let v : Verdict (List Sort) = verdict_of_exprs (map expr_verdict items) env in
    let n = node_parts (type_verdict t env also v) (λ x. array_rules at (are_all_assignable env x.1 (item_sort x.0))) (λ x. x.0) s h in
    let both = also_parts (type_verdict t env) v n.part n.typed in
    let fit : are_all_assignable env n.part.1 (item_sort s) ≡ true = ap (λ x. are_all_assignable env n.part.1 (item_sort x)) (sym n.is) ∙ rule_holds 18 at (are_all_assignable env n.part.1 (item_sort n.part.0)) n.keeps in
    (n.part.1, both.left ∙ ap (λ x. Good x) n.is, exprs_parts items env n.part.1 both.right, all_hold env (item_sort s) n.part.1 fit)
form_parts (Expr-F.ByName at cast b name) env minus s h =
    let n = node_parts (expr_verdict name env false) (λ x. handler_only_rules env at ++ by_name_rules cast b x env) (λ x. plain (Actor b.text)) s h in
    let only = rule_holds 7 at (is_handler env.member) (none_left (handler_only_rules env at) (by_name_rules cast b n.part env) n.keeps) in
    let fits = rule_holds 20 b.at (has_behavior b.text env && is_text_sort n.part && cast_fits cast b) (none_right (handler_only_rules env at) (by_name_rules cast b n.part env) n.keeps) in
    let two = and_parts (has_behavior b.text env && is_text_sort n.part) (cast_fits cast b) fits in
    let one = and_parts (has_behavior b.text env) (is_text_sort n.part) two.0 in
    (n.typed ∙ ap (λ x. Good x) (text_is n.part one.1), only, one.0, two.1, n.is)

pub verdict_is : (e : Expr) → expr_verdict e ≡ verdict_of_form (out-Expr e)
unfolding expr_verdict suffix_verdict at_verdict operand_verdict
verdict_is e =
    ap expr_verdict (sym (rolled_expr e))
    ∙ fold-roll-Expr ExprTyping SuffixTyping LocationTyping OperandTyping typing.expr_step typing.suffix_step typing.at_step typing.operand_step (out-Expr e)

pub have_parts : ExpressionsHaveParts
have_parts env e minus s h = form_parts (out-Expr e) env minus s (ap (λ (m : ExprTyping). m env minus) (sym (verdict_is e)) ∙ h)
