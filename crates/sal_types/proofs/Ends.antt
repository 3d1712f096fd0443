-- In a typed program a handler with a result surely ends.
use Rattle.std.proofs.Common.{◌≡◌, ℕ, Bool, true, false, ◌&&◌, ◌||◌, nat_eq, is_some, zero, suc, List, [], ◌∷◌, ◌++◌, length, filter_map, slice_get, Option, Some, None, Ok, sym, ap, subst, ◌∙◌, refl}
use Rattle.std.specs.List.{list_any}
use Rattle.sal_ast.specs.declared.program.Ident.{Ident}
use Rattle.sal_ast.specs.declared.program.BaseName.{BaseName}
use Rattle.sal_ast.specs.declared.program.BaseName.TheVariants as word
use Rattle.sal_ast.specs.declared.program.TypeName.{TypeName}
use Rattle.sal_ast.specs.declared.program.Param.{Param}
use Rattle.sal_ast.specs.declared.program.Member.{Member}
use Rattle.sal_ast.specs.declared.program.Member.TheVariants as m
use Rattle.sal_ast.specs.declared.program.Behavior.{Behavior}
use Rattle.sal_ast.specs.declared.statement.Stmt.{Stmt}
use Rattle.sal_ast.specs.Members.{Handler, as_handler, handlers_at}
use Rattle.sal_sorts.specs.declared.sort.Base.TheVariants.{Void}
use Rattle.sal_sorts.specs.declared.sort.Sort.{Sort}
use Rattle.sal_sorts.specs.declared.variable.MemberKind.TheVariants as kind
use Rattle.sal_sorts.specs.Sorts.{base_of, is_same_base, is_same_sort, is_void_sort, sort_of_type, sort_of_result}
use Rattle.sal_sorts.specs.Environments.{Environment, member_environment}
use Rattle.sal_sorts.specs.Verdicts.{Violation, good_unless}
use Rattle.sal_sorts.specs.Expressions.{type_rules, type_verdict}
use Rattle.sal_sorts.specs.Refusals.{first, fine, and_then}
use Rattle.sal_types.specs.Endings.{surely_ends}
use Rattle.sal_types.specs.Laws.{HandlersWithResultsEnd}
use Rattle.sal_types.specs.Members.{count_rules, second_rules, is_among, migrate_rules, end_rules, declared_handler_rules, handler_names}
use Rattle.sal_types.specs.Programs.{start_rules}
use Rattle.sal_types.specs.code.Checks.{check_body, check_handler, check_member, check_members, check_behaviors}
use Rattle.sal_types.proofs.MemberChecks.{members_next, check-program, member-Handler}
use Rattle.sal_types.proofs.Start.{at_behavior}
use Rattle.sal_types.proofs.Accepted.{checked, came, fine_right, holds, behavior_checked}

no_void : (b : BaseName) → is_same_base (base_of b) Void ≡ false
no_void word.Int = refl
no_void word.Boolean = refl
no_void word.Str = refl
no_void (word.Actor name) = refl

type_is_no_void : (t : TypeName) → is_void_sort (sort_of_type t) ≡ false
unfolding is_void_sort is_same_sort sort_of_type
type_is_no_void t = with_base (is_same_base (base_of t.base) Void) (nat_eq t.dims 0) (no_void t.base)
  where
    with_base : (b c : Bool) → b ≡ false → (b && c) ≡ false
    with_base true c e = absurd cc
    with_base false c e = refl

sort_is : {A : Type 0} (rs : List Violation) (a s : A) → first (good_unless rs a) ≡ Ok s → s ≡ a
sort_is [] a s h = cc
sort_is (v ∷ vs) a s h = absurd cc

result_is_no_void : (t : TypeName) (env : Environment) (s : Sort) → first (type_verdict t env) ≡ Ok s → is_void_sort s ≡ false
unfolding type_verdict
result_is_no_void t env s h = ap is_void_sort (sort_is (type_rules t env) (sort_of_type t) s h) ∙ type_is_no_void t

second_holds : (a b : Bool) → (a || b) ≡ true → a ≡ false → b ≡ true
second_holds true b h e = absurd cc
second_holds false b h e = h

handler_ends : (behaviors : List Behavior) (own : List ℕ) (before : List Member) (result : Option TypeName) (name : Ident) (params : List Param) (body : List Stmt) → check_member behaviors own before (m.Handler result name params body) ≡ Ok tt → is_some result ≡ true → list_any surely_ends body ≡ true
unfolding check_handler
handler_ends behaviors own before None name params body h e = absurd cc
handler_ends behaviors own before (Some t) name params body h e =
    let env : Environment = member_environment behaviors own kind.Handler (sort_of_result (Some t)) in
    let gives = came (first (type_verdict t env)) (λ s. and_then (check_body params body env) (λ u. fine (declared_handler_rules (handler_names before) name s body))) tt (sym (member-Handler behaviors own before (Some t) name params body) ∙ h) in
    let rest = came (check_body params body env) (λ u. fine (declared_handler_rules (handler_names before) name gives.0 body)) tt gives.2 in
    let last = fine_right (count_rules 64 (length (handler_names before)) name.at ++ second_rules name.at (is_among name.text (handler_names before)) ++ migrate_rules name) (end_rules name gives.0 body) rest.2 in
    second_holds (is_void_sort gives.0) (list_any surely_ends body) (holds 8 name.at (is_void_sort gives.0 || list_any surely_ends body) last) (result_is_no_void t env gives.0 gives.1)

members_end : (behaviors : List Behavior) (own : List ℕ) (before ms : List Member) (k : ℕ) (h : Handler) → check_members behaviors own before ms ≡ Ok tt → slice_get (filter_map as_handler ms) k ≡ Some h → is_some h.result ≡ true → list_any surely_ends h.body ≡ true
members_end behaviors own before [] k h c g = absurd cc
members_end behaviors own before (m.Field sort name init ∷ ms) k h c g =
    let parts = came (check_member behaviors own before (m.Field sort name init)) (λ u. check_members behaviors own (before ++ m.Field sort name init ∷ []) ms) tt (sym (members_next behaviors own before (m.Field sort name init) ms) ∙ c) in
    members_end behaviors own (before ++ m.Field sort name init ∷ []) ms k h parts.2 g
members_end behaviors own before (m.Constructor name params body ∷ ms) k h c g =
    let parts = came (check_member behaviors own before (m.Constructor name params body)) (λ u. check_members behaviors own (before ++ m.Constructor name params body ∷ []) ms) tt (sym (members_next behaviors own before (m.Constructor name params body) ms) ∙ c) in
    members_end behaviors own (before ++ m.Constructor name params body ∷ []) ms k h parts.2 g
members_end behaviors own before (m.Handler result name params body ∷ ms) zero h c g =
    let parts = came (check_member behaviors own before (m.Handler result name params body)) (λ u. check_members behaviors own (before ++ m.Handler result name params body ∷ []) ms) tt (sym (members_next behaviors own before (m.Handler result name params body) ms) ∙ c) in
    let this : Handler = record { name = name.text; result = result; params = params; body = body } in
    let same : this ≡ h = cc in
    let P : Handler → Type 0 = λ x. is_some x.result ≡ true → list_any surely_ends x.body ≡ true in
    subst P same (handler_ends behaviors own before result name params body parts.1)
members_end behaviors own before (m.Handler result name params body ∷ ms) (suc k) h c g =
    let parts = came (check_member behaviors own before (m.Handler result name params body)) (λ u. check_members behaviors own (before ++ m.Handler result name params body ∷ []) ms) tt (sym (members_next behaviors own before (m.Handler result name params body) ms) ∙ c) in
    members_end behaviors own (before ++ m.Handler result name params body ∷ []) ms k h parts.2 g

pub handlers_end : HandlersWithResultsEnd
handlers_end p t n k h g = in_option (slice_get p.behaviors n) refl
  where
    in_option : (o : Option Behavior) → slice_get p.behaviors n ≡ o → is_some h.result ≡ true → list_any surely_ends h.body ≡ true
    in_option None e = let z : handlers_at p.behaviors (Some n) ≡ [] = rw e refl in let y : slice_get [] k ≡ Some h = ap (λ l. slice_get l k) (sym z) ∙ g in absurd cc
    in_option (Some b) e =
        let parts = came (check_behaviors p.behaviors [] p.behaviors) (λ u. fine (start_rules p.behaviors)) tt (sym (check-program p) ∙ checked p t) in
        members_end p.behaviors b.name.text [] b.members k h (behavior_checked p.behaviors [] p.behaviors n b parts.1 e) (ap (λ l. slice_get l k) (sym (at_behavior p.behaviors n b e)) ∙ g)
