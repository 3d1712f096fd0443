-- Calls in typed programs, by the numbers of their handlers.
use Rattle.std.proofs.Common.{◌≡◌, ℕ, ◌<◌, ◌≤◌, Bool, false, cond, List, [], ◌∷◌, length, map, Option, Some, None, option_map, refl, sym, ap, subst, ◌∙◌, arith}
use Rattle.std.specs.Prelude.{slice_get}
use Rattle.std.specs.List.{find, position_or_len}
use Rattle.std.specs.Option.{option_and_then}
use Rattle.std.specs.Str.{bytes_eq}
use Rattle.std.proofs.lemmas.Bool.{lt-ltb}
use Rattle.sal_value.specs.declared.constants.TheConstants.{RESERVED}
use Rattle.sal_value.specs.declared.value.Sort.{Sort as MeantSort}
use Rattle.sal_ast.specs.declared.program.Param.{Param}
use Rattle.sal_ast.specs.declared.program.Behavior.{Behavior}
use Rattle.sal_ast.specs.declared.program.Program.{Program}
use Rattle.sal_ast.specs.Members.{Handler, handlers_at, valid_number, behavior_by_name, handler_by_name}
use Rattle.sal_ast.specs.Sorts.{type_sort, result_sort}
use Rattle.sal_sorts.specs.declared.sort.Sort.{Sort}
use Rattle.sal_sorts.specs.Sorts.{sort_of_type}
use Rattle.sal_sorts.specs.Environments.{Environment, HandlerType, behavior_with_name, handlers_in, type_of_handler, migrate_type, is_migrate, handler_with_name}
use Rattle.sal_types.specs.declared.signature.Signature.{Signature}
use Rattle.sal_types.specs.Programs.{IsTyped}
use Rattle.sal_types.specs.Signatures.{with_behavior, numbers_by_name, all_some, cons_some, signature_with, signature_of, signature_at}
use Rattle.sal_types.proofs.Known.{have_signatures}
use Rattle.sal_typing.specs.Numbers.{number_sort}
use Rattle.sal_typing.specs.Parts.{Pairwise, IsCall}
use Rattle.sal_typing.specs.Calls.{HasSignature, CallsHaveSignatures}
use Rattle.sal_typing.proofs.Inverting.{some_is}
use Rattle.sal_typing.proofs.Finding.{stands_first, position_of}
use Rattle.sal_typing.proofs.Numbering.{number_of_type, number_of_result}
use Rattle.sal_typing.proofs.Expressions.{behavior_numbered}
use Rattle.sal_typing.proofs.Members.{programs_have_parts}

-- ---- signatures, part by part

all_parts : (behaviors : List Behavior) (ps : List Param) (ts : List MeantSort) → all_some (map (λ p. type_sort p.sort behaviors) ps) ≡ Some ts → Pairwise (λ s t. number_sort s behaviors ≡ Some t) (map (λ p. sort_of_type p.sort) ps) ts
all_parts behaviors [] [] h = tt
all_parts behaviors [] (t ∷ ts) h = absurd cc
all_parts behaviors (p ∷ ps) ts h = by (type_sort p.sort behaviors) refl (all_some (map (λ (q : Param). type_sort q.sort behaviors) ps)) ts h (λ l e. all_parts behaviors ps l e)
  where
    by : (o : Option MeantSort) → type_sort p.sort behaviors ≡ o → (os : Option (List MeantSort)) → (l : List MeantSort) → cons_some o os ≡ Some l
        → ((k : List MeantSort) → os ≡ Some k → Pairwise (λ s t. number_sort s behaviors ≡ Some t) (map (λ (q : Param). sort_of_type q.sort) ps) k)
        → Pairwise (λ s t. number_sort s behaviors ≡ Some t) (sort_of_type p.sort ∷ map (λ (q : Param). sort_of_type q.sort) ps) l
    by None is os l e more = absurd cc
    by (Some t) is None l e more = absurd cc
    by (Some t) is (Some k) l e more =
        let same : t ∷ k ≡ l = some_is (t ∷ k) l e in
        subst (λ x. Pairwise (λ s t. number_sort s behaviors ≡ Some t) (sort_of_type p.sort ∷ map (λ (q : Param). sort_of_type q.sort) ps) x) same (number_of_type p.sort behaviors ∙ is, more k refl)

signature_parts : (ps : Option (List MeantSort)) (r : Option MeantSort) (s : Signature) → signature_with ps r ≡ Some s → (ps ≡ Some s.params) × (r ≡ Some s.result)
signature_parts None r s h = absurd cc
signature_parts (Some ps) None s h = absurd cc
signature_parts (Some ps) (Some r) s h =
    let same : record { params = ps; result = r } ≡ s = some_is (record { params = ps; result = r }) s h in
    (ap (λ (x : Signature). Some x.params) same, ap (λ (x : Signature). Some x.result) same)

-- ---- the handler that is called

-- a declared handler, which stands in its behaviour with this number
record Declared (env : Environment) (n : ℕ) (handler : List ℕ) (c : HandlerType) : Type 0 where
  pub found : Handler
  pub is : find (λ (h : Handler). bytes_eq h.name handler) (handlers_at env.behaviors (Some n)) ≡ Some found
  pub type : type_of_handler found ≡ c

same_handlers : (behaviors : List Behavior) (n : ℕ) (o : Option Behavior) → slice_get behaviors n ≡ o → handlers_in o ≡ handlers_at behaviors (Some n)
same_handlers behaviors n None e = rw e refl
same_handlers behaviors n (Some b) e = rw e refl

found_as : (o : Option Handler) (c : HandlerType) → option_map type_of_handler o ≡ Some c → (h : Handler) × (o ≡ Some h) × (type_of_handler h ≡ c)
found_as None c e = absurd cc
found_as (Some h) c e = (h, refl, some_is (type_of_handler h) c e)

declared : (env : Environment) (n : ℕ) → length env.behaviors ≤ 64 → (behavior handler : List ℕ) → behavior_by_name behavior env.behaviors ≡ Some n → (c : HandlerType) → handler_with_name handler (behavior_with_name behavior env) ≡ Some c → is_migrate handler ≡ false → Declared env n handler c
unfolding handler_with_name
declared env n few behavior handler is c e other =
    let b : Option Behavior = behavior_with_name behavior env in
    let p : Handler → Bool = λ h. bytes_eq h.name handler in
    let here : option_map type_of_handler (find p (handlers_in b)) ≡ Some c = ap (λ t. cond t (Some migrate_type) (option_map type_of_handler (find p (handlers_in b)))) (sym other) ∙ e in
    let h = found_as (find p (handlers_in b)) c here in
    let numbered : b ≡ slice_get env.behaviors n = behavior_numbered behavior n env few is in
    let list : handlers_in b ≡ handlers_at env.behaviors (Some n) = ap handlers_in numbered ∙ same_handlers env.behaviors n (slice_get env.behaviors n) refl in
    record { found = h.0; is = ap (find p) (sym list) ∙ h.1; type = h.2 }

small_number : (n : ℕ) → n < 64 → valid_number (Some n) ≡ Some n
small_number n h = let small : n < RESERVED = omega arith in ap (λ b. cond b (Some n) None) (lt-ltb n RESERVED small)

handler_numbered : (hs : List Handler) (handler : List ℕ) (h : Handler) → length hs ≤ 64 → find (λ (x : Handler). bytes_eq x.name handler) hs ≡ Some h
    → (k : ℕ) × (handler_by_name handler hs ≡ Some k) × (slice_get hs k ≡ Some h)
unfolding handler_by_name
handler_numbered hs handler h few e =
    let p : Handler → Bool = λ x. bytes_eq x.name handler in
    let at = stands_first p hs h e in
    let k : ℕ = position_or_len p hs in
    let within : k < length hs = at.within in
    let small : k < 64 = omega arith in
    (k, ap valid_number (position_of p hs h e) ∙ small_number k small, at.there)

few_handlers : (p : Program) → IsTyped p → (n : ℕ) → length (handlers_at p.behaviors (Some n)) ≤ 64
few_handlers p t n = by (slice_get p.behaviors n) refl
  where
    by : (o : Option Behavior) → slice_get p.behaviors n ≡ o → length (handlers_at p.behaviors (Some n)) ≤ 64
    by None e = rw e (omega arith)
    by (Some b) e = let few = ((programs_have_parts p t).behaviors n b e).few_handlers in rw e few

call_signed : (p : Program) → IsTyped p → (env : Environment) → env.behaviors ≡ p.behaviors → length env.behaviors ≤ 64 → (behavior handler : List ℕ) (args : List Sort) (reply : Sort) (c : IsCall env behavior handler args reply) → is_migrate handler ≡ false
    → HasSignature p behavior handler c.callee
unfolding numbers_by_name signature_at signature_of
call_signed p t env e few behavior handler args reply c other =
    let d = declared env c.number few behavior handler c.numbered c.callee c.is_there other in
    let hs : List Handler = handlers_at p.behaviors (Some c.number) in
    let found : find (λ (h : Handler). bytes_eq h.name handler) hs ≡ Some d.found = ap (λ bs. find (λ (h : Handler). bytes_eq h.name handler) (handlers_at bs (Some c.number))) (sym e) ∙ d.is in
    let at = handler_numbered hs handler d.found (few_handlers p t c.number) found in
    let numbered : behavior_by_name behavior p.behaviors ≡ Some c.number = ap (behavior_by_name behavior) (sym e) ∙ c.numbered in
    let signed = have_signatures p t c.number at.0 d.found at.2 in
    let there : signature_with (all_some (map (λ (q : Param). type_sort q.sort p.behaviors) d.found.params)) (result_sort d.found.result p.behaviors) ≡ Some signed.0 = sym (ap (option_and_then (signature_of p.behaviors)) at.2) ∙ signed.1 in
    let parts = signature_parts (all_some (map (λ (q : Param). type_sort q.sort p.behaviors) d.found.params)) (result_sort d.found.result p.behaviors) signed.0 there in
    let params = all_parts p.behaviors d.found.params signed.0.params parts.0 in
    let result = number_of_result d.found.result p.behaviors ∙ parts.1 in
    record {
      numbers = (c.number, at.0);
      numbered = ap (option_and_then (λ n. with_behavior n (handler_by_name handler (handlers_at p.behaviors (Some n))))) numbered ∙ ap (with_behavior c.number) at.1;
      signature = signed.0;
      is = signed.1;
      params = subst (λ (h : HandlerType). Pairwise (λ s u. number_sort s p.behaviors ≡ Some u) h.params signed.0.params) d.type params;
      result = subst (λ (h : HandlerType). number_sort h.result p.behaviors ≡ Some signed.0.result) d.type result;
    }

pub calls_have_signatures : CallsHaveSignatures
calls_have_signatures p t env e behavior handler args reply c other =
    let few : length p.behaviors ≤ 64 = (programs_have_parts p t).few in
    call_signed p t env e (subst (λ (bs : List Behavior). length bs ≤ 64) (sym e) few) behavior handler args reply c other
