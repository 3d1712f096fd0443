-- In a typed program each type that is written means one, so each handler has a signature.
use Rattle.std.proofs.Common.{◌≡◌, ℕ, ◌+◌, ◌<◌, ◌≤◌, Bool, true, false, ◌&&◌, ◌||◌, cond, is_some, nat_le, List, [], ◌∷◌, ◌++◌, length, map, filter_map, slice_get, Option, Some, None, option_map, Ok, sym, ap, ◌∙◌, refl, arith}
use Rattle.std.specs.List.{find, list_any, position_or_len}
use Rattle.std.specs.Option.{option_and_then}
use Rattle.std.specs.Str.{bytes_eq}
use Rattle.std.proofs.lemmas.Bool.{lt-ltb, le-ltb, leb-true, and_parts}
use Rattle.sal_value.specs.declared.constants.TheConstants.{RESERVED}
use Rattle.sal_value.specs.declared.value.Base.{Base}
use Rattle.sal_value.specs.declared.value.Sort.{Sort}
use Rattle.sal_ast.specs.declared.program.Ident.{Ident}
use Rattle.sal_ast.specs.declared.program.BaseName.{BaseName}
use Rattle.sal_ast.specs.declared.program.BaseName.TheVariants as word
use Rattle.sal_ast.specs.declared.program.TypeName.{TypeName}
use Rattle.sal_ast.specs.declared.program.Param.{Param}
use Rattle.sal_ast.specs.declared.program.Member.{Member}
use Rattle.sal_ast.specs.declared.program.Member.TheVariants as m
use Rattle.sal_ast.specs.declared.program.Behavior.{Behavior}
use Rattle.sal_ast.specs.declared.program.Program.{Program}
use Rattle.sal_ast.specs.declared.statement.Stmt.{Stmt}
use Rattle.sal_ast.specs.Members.{Handler, as_handler, handlers_of, handlers_at, valid_number, behavior_by_name}
use Rattle.sal_ast.specs.Sorts.{with_dims, type_sort, base_of, sort_with, result_sort}
use Rattle.sal_sorts.specs.declared.sort.Sort as checked_sort
use Rattle.sal_sorts.specs.declared.variable.MemberKind.TheVariants as kind
use Rattle.sal_sorts.specs.Sorts.{sort_of_type, sort_of_result}
use Rattle.sal_sorts.specs.Environments.{Environment, has_behavior, behavior_with_name, member_environment}
use Rattle.sal_sorts.specs.Verdicts.{Violation, good_unless}
use Rattle.sal_sorts.specs.Expressions.{type_rules, type_verdict, is_known_base}
use Rattle.sal_sorts.specs.Refusals.{first, fine, and_then}
use Rattle.sal_types.specs.declared.signature.Signature.{Signature}
use Rattle.sal_types.specs.Laws.{HandlersHaveSignatures}
use Rattle.sal_types.specs.Statements.{free_rules}
use Rattle.sal_types.specs.Members.{result_verdict, declared_handler_rules, handler_names, count_rules}
use Rattle.sal_types.specs.Programs.{IsTyped, start_rules}
use Rattle.sal_types.specs.Signatures.{all_some, cons_some, signature_with, signature_of, signature_at, behavior_signatures, all_signatures}
use Rattle.sal_types.specs.code.Checks.{check_param, after_param, check_params, after_params, check_body, check_handler, check_member, check_members, check_behavior, check_behaviors, check_stmts, behavior_rules}
use Rattle.sal_types.proofs.MemberChecks.{members_next, behaviors_next, params_next, check-body, check-behavior, check-program, member-Handler}
use Rattle.sal_types.proofs.Accepted.{checked, came, holds, behaviors_few}
use Rattle.sal_types.proofs.Start.{first_place, found, at_behavior}
use Rattle.sal_types.proofs.SignatureSteps.{item_at}

-- something is there
abbrev IsThere : {A : Type 0} → Option A → Type 0
IsThere {A} o = (a : A) × (o ≡ Some a)

any_found : {X : Type 0} (p : X → Bool) (xs : List X) → is_some (find p xs) ≡ list_any p xs
any_found p [] = refl
any_found p (x ∷ xs) = step (p x) (find p xs) (list_any p xs) (any_found p xs)
  where
    step : (b : Bool) (o : Option _) (c : Bool) → is_some o ≡ c → is_some (cond b (Some x) o) ≡ (b || c)
    step true o c h = refl
    step false o c h = h

number_valid : (n : ℕ) → n < 64 → valid_number (Some n) ≡ Some n
number_valid n h = let small : n < RESERVED = omega arith in ap (λ b. cond b (Some n) None) (lt-ltb n RESERVED small)

dims_valid : (b : Base) (dims : ℕ) → nat_le dims 8 ≡ true → with_dims b dims ≡ Some (record { base = b; dims = dims })
dims_valid b dims h = let few : dims ≤ 8 = leb-true dims 8 h in ap (λ t. cond t None (Some (record { base = b; dims = dims }))) (le-ltb 8 dims few)

named_behavior : (name : List ℕ) (env : Environment) → length env.behaviors ≤ 64 → has_behavior name env ≡ true → IsThere (behavior_by_name name env.behaviors)
unfolding has_behavior behavior_with_name behavior_by_name
named_behavior name env few h =
    let p : Behavior → Bool = λ b. bytes_eq b.name.text name in
    let at = first_place p env.behaviors (sym (any_found p env.behaviors) ∙ h) in
    let n : ℕ = position_or_len p env.behaviors in
    let within : n < length env.behaviors = at.within in
    let small : n < 64 = omega arith in
    (n, ap valid_number (found p env.behaviors within) ∙ number_valid n small)

known_base : (b : BaseName) (env : Environment) → length env.behaviors ≤ 64 → is_known_base b env ≡ true → IsThere (base_of b env.behaviors)
known_base word.Int env few h = (_, refl)
known_base word.Boolean env few h = (_, refl)
known_base word.Str env few h = (_, refl)
known_base (word.Actor name) env few h = let n = named_behavior name env few h in (_, ap (option_map _) n.1)

known_sort : (o : Option Base) (dims : ℕ) → IsThere o → nat_le dims 8 ≡ true → IsThere (sort_with o dims)
known_sort None dims h few = absurd (cc (h.1))
known_sort (Some b) dims h few = (_, dims_valid b dims few)

rules_fine : {A : Type 0} (rs : List Violation) (a s : A) → first (good_unless rs a) ≡ Ok s → fine rs ≡ Ok tt
rules_fine [] a s h = refl
rules_fine (v ∷ vs) a s h = absurd cc

known_type : (t : TypeName) (env : Environment) (s : checked_sort.Sort) → length env.behaviors ≤ 64 → first (type_verdict t env) ≡ Ok s → IsThere (type_sort t env.behaviors)
unfolding type_verdict type_rules type_sort
known_type t env s few h =
    let both = and_parts (is_known_base t.base env) (nat_le t.dims 8) (holds 6 t.at (is_known_base t.base env && nat_le t.dims 8) (rules_fine (type_rules t env) (sort_of_type t) s h)) in
    known_sort (base_of t.base env.behaviors) t.dims (known_base t.base env few both.0) both.1

known_result : (r : Option TypeName) (env : Environment) (s : checked_sort.Sort) → length env.behaviors ≤ 64 → first (result_verdict r env) ≡ Ok s → IsThere (result_sort r env.behaviors)
known_result None env s few h = (_, refl)
known_result (Some t) env s few h = known_type t env s few h

one_more : {A : Type 0} (o : Option A) (os : Option (List A)) → IsThere o → IsThere os → IsThere (cons_some o os)
one_more o os h hs = (h.0 ∷ hs.0, ap (λ x. cons_some x os) h.1 ∙ ap (cons_some (Some h.0)) hs.1)

known_params : (params : List Param) (env : Environment) → length env.behaviors ≤ 64 → check_params params env ≡ Ok tt → IsThere (all_some (map (λ p. type_sort p.sort env.behaviors) params))
unfolding check_param after_param
known_params [] env few h = (_, refl)
known_params (p ∷ ps) env few h =
    let parts = came (check_param p env) (λ u. check_params ps (after_param p env)) tt (sym (params_next p ps env) ∙ h) in
    let sort = came (first (type_verdict p.sort env)) (λ s. and_then (fine (count_rules 16 (length env.scope) p.name.at)) (λ u. fine (free_rules p.name env))) tt parts.1 in
    one_more (type_sort p.sort env.behaviors) (all_some (map (λ (q : Param). type_sort q.sort env.behaviors) ps)) (known_type p.sort env sort.0 few sort.1) (known_params ps (after_param p env) few parts.2)

both_there : (ps : Option (List Sort)) (r : Option Sort) → IsThere ps → IsThere r → IsThere (signature_with ps r)
both_there ps r hs h = (_, ap (λ x. signature_with x r) hs.1 ∙ ap (signature_with (Some hs.0)) h.1)

known_handler : (behaviors : List Behavior) (own : List ℕ) (before : List Member) (result : Option TypeName) (name : Ident) (params : List Param) (body : List Stmt) → length behaviors ≤ 64 → check_member behaviors own before (m.Handler result name params body) ≡ Ok tt → IsThere (signature_of behaviors (record { name = name.text; result = result; params = params; body = body }))
unfolding check_handler signature_of
known_handler behaviors own before result name params body few h =
    let env : Environment = member_environment behaviors own kind.Handler (sort_of_result result) in
    let gives = came (first (result_verdict result env)) (λ s. and_then (check_body params body env) (λ u. fine (declared_handler_rules (handler_names before) name s body))) tt (sym (member-Handler behaviors own before result name params body) ∙ h) in
    let whole = came (check_body params body env) (λ u. fine (declared_handler_rules (handler_names before) name gives.0 body)) tt gives.2 in
    let takes = came (check_params params env) (λ u. and_then (check_stmts [] body (after_params params env)) (λ ss. Ok tt)) whole.0 (sym (check-body params body env) ∙ whole.1) in
    both_there (all_some (map (λ (p : Param). type_sort p.sort behaviors) params)) (result_sort result behaviors) (known_params params env few takes.1) (known_result result env gives.0 few gives.1)

known_members : (behaviors : List Behavior) (own : List ℕ) (before ms : List Member) → length behaviors ≤ 64 → check_members behaviors own before ms ≡ Ok tt → IsThere (all_some (map (signature_of behaviors) (filter_map as_handler ms)))
known_members behaviors own before [] few h = (_, refl)
known_members behaviors own before (m.Field sort name init ∷ ms) few h =
    let parts = came (check_member behaviors own before (m.Field sort name init)) (λ u. check_members behaviors own (before ++ m.Field sort name init ∷ []) ms) tt (sym (members_next behaviors own before (m.Field sort name init) ms) ∙ h) in
    known_members behaviors own (before ++ m.Field sort name init ∷ []) ms few parts.2
known_members behaviors own before (m.Constructor name params body ∷ ms) few h =
    let parts = came (check_member behaviors own before (m.Constructor name params body)) (λ u. check_members behaviors own (before ++ m.Constructor name params body ∷ []) ms) tt (sym (members_next behaviors own before (m.Constructor name params body) ms) ∙ h) in
    known_members behaviors own (before ++ m.Constructor name params body ∷ []) ms few parts.2
known_members behaviors own before (m.Handler result name params body ∷ ms) few h =
    let parts = came (check_member behaviors own before (m.Handler result name params body)) (λ u. check_members behaviors own (before ++ m.Handler result name params body ∷ []) ms) tt (sym (members_next behaviors own before (m.Handler result name params body) ms) ∙ h) in
    one_more (signature_of behaviors (record { name = name.text; result = result; params = params; body = body })) (all_some (map (signature_of behaviors) (filter_map as_handler ms)))
    (known_handler behaviors own before result name params body few parts.1)
    (known_members behaviors own (before ++ m.Handler result name params body ∷ []) ms few parts.2)

known_behaviors : (behaviors before bs : List Behavior) → length behaviors ≤ 64 → check_behaviors behaviors before bs ≡ Ok tt → IsThere (all_some (map (behavior_signatures behaviors) bs))
unfolding behavior_signatures handlers_of
known_behaviors behaviors before [] few h = (_, refl)
known_behaviors behaviors before (b ∷ bs) few h =
    let parts = came (check_behavior behaviors before b) (λ u. check_behaviors behaviors (before ++ b ∷ []) bs) tt (sym (behaviors_next behaviors before b bs) ∙ h) in
    let members = came (check_members behaviors b.name.text [] b.members) (λ u. fine (behavior_rules before b)) tt (sym (check-behavior behaviors before b) ∙ parts.1) in
    one_more (behavior_signatures behaviors b) (all_some (map (behavior_signatures behaviors) bs)) (known_members behaviors b.name.text [] b.members few members.1) (known_behaviors behaviors (before ++ b ∷ []) bs few parts.2)

all_there : (p : Program) → IsTyped p → IsThere (all_signatures p)
unfolding all_signatures
all_there p h =
    let parts = came (check_behaviors p.behaviors [] p.behaviors) (λ u. fine (start_rules p.behaviors)) tt (sym (check-program p) ∙ checked p h) in
    let few : length p.behaviors ≤ 64 = omega (arith, behaviors_few p.behaviors [] p.behaviors (omega arith) parts.1) in
    known_behaviors p.behaviors [] p.behaviors few parts.1

pub signatures_are_there : (p : Program) → IsTyped p → all_signatures p ≡ None → ⊥
signatures_are_there p h e = let there = all_there p h in absurd (cc (there.1, e))

pub have_signatures : HandlersHaveSignatures
unfolding all_signatures signature_at behavior_signatures handlers_of
have_signatures p t n k h g = in_option (slice_get p.behaviors n) refl
  where
    in_option : (o : Option Behavior) → slice_get p.behaviors n ≡ o → (s : Signature) × (option_and_then (signature_of p.behaviors) (slice_get (handlers_at p.behaviors (Some n)) k) ≡ Some s)
    in_option None e = let z : handlers_at p.behaviors (Some n) ≡ [] = rw e refl in let y : slice_get [] k ≡ Some h = ap (λ l. slice_get l k) (sym z) ∙ g in absurd cc
    in_option (Some b) e =
        let there = all_there p t in
        let r = item_at (behavior_signatures p.behaviors) p.behaviors there.0 n b there.1 e in
        let here : slice_get (filter_map as_handler b.members) k ≡ Some h = ap (λ l. slice_get l k) (sym (at_behavior p.behaviors n b e)) ∙ g in
        let q = item_at (signature_of p.behaviors) (filter_map as_handler b.members) r.item k h r.is here in
        (q.item, ap (option_and_then (signature_of p.behaviors)) g ∙ q.is)
