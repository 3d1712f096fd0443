-- A typed call goes to a handler of the program that has a signature, with the same types.
use Rattle.std.proofs.Common.{◌≡◌, ℕ, ◌<◌, Bool, true, false, ◌&&◌, if◌then◌else◌, List, [], ◌∷◌, map, Option, Some, None, refl, sym, ap, subst, ◌∙◌, arith}
use Rattle.std.specs.Prelude.{slice_get, nat_lt, nat_eq, codes}
use Rattle.std.specs.List.{position}
use Rattle.std.specs.Option.{option_and_then}
use Rattle.std.specs.Str.{bytes_eq}
use Rattle.std.proofs.lemmas.Bool.{ltb-true, ne_eqb}
use Rattle.sal_value.specs.declared.constants.TheConstants.{RESERVED}
use Rattle.sal_value.specs.declared.value.Sort.{Sort as MeantSort}
use Rattle.sal_value.proofs.Tables.{some_is}
use Rattle.sal_ast.specs.declared.program.Param.{Param}
use Rattle.sal_ast.specs.declared.program.Behavior.{Behavior}
use Rattle.sal_ast.specs.declared.program.Program.{Program}
use Rattle.sal_ast.specs.Members.{Handler, handlers_of, handlers_at, valid_number, behavior_by_name, handler_by_name}
use Rattle.sal_ast.specs.Sorts.{type_sort, result_sort}
use Rattle.sal_mail.specs.declared.constants.TheConstants.{OUTPUT, MIGRATE}
use Rattle.sal_sorts.specs.declared.sort.Sort.{Sort}
use Rattle.sal_sorts.specs.Environments.{Environment, HandlerType, behavior_with_name, handlers_in, migrate_type, is_migrate, handler_with_name}
use Rattle.sal_types.specs.declared.signature.Signature.{Signature}
use Rattle.sal_types.specs.Programs.{IsTyped}
use Rattle.sal_types.specs.Signatures as types
use Rattle.sal_types.specs.Signatures.{with_behavior, numbers_by_name, all_some, signature_with}
use Rattle.sal_typing.specs.Numbers.{number_sort}
use Rattle.sal_typing.specs.Parts.{Pairwise, IsCall}
use Rattle.sal_typing.proofs.Calls.{calls_have_signatures}
use Rattle.sal_handler.specs.Fits as fits
use Rattle.sal_handler.specs.Fits.{sorts_of}
use Rattle.sal_handler.specs.Messages.{or_no_number, actor_handler_id}
use Rattle.sal_handler.specs.Scopes.{Context}
use Rattle.sal_fitting.specs.Signatures.{migrate_signature, signature_at}
use Rattle.sal_fitting.specs.Programs.{or_void, signature_of, signature_in, signatures}

valid : (o : Option ℕ) (n : ℕ) → valid_number o ≡ Some n → n < RESERVED
valid None n e = absurd cc
valid (Some m) n e = by (nat_lt m RESERVED) refl e
  where
    by : (b : Bool) → nat_lt m RESERVED ≡ b → (if b then Some m else None) ≡ Some n → n < RESERVED
    by true l e = subst (λ z. z < RESERVED) (some_is e) (ltb-true m RESERVED l)
    by false l e = absurd cc

valid_name : (name : List ℕ) (bs : List Behavior) (n : ℕ) → behavior_by_name name bs ≡ Some n → n < RESERVED
unfolding behavior_by_name
valid_name name bs n e = valid (position (λ (b : Behavior). bytes_eq b.name.text name) bs) n e

pub no_output : (n k : ℕ) → n < RESERVED → fits.is_migrate n k ≡ false
no_output n k l = ap (λ b. b && nat_eq k MIGRATE) (ne_eqb n OUTPUT (λ e. absurd (omega (arith, l, e))))

-- ---- the two ways to read a signature off a program

named_sorts : (bs : List Behavior) (ps : List Param) → sorts_of bs (map (λ (p : Param). p.sort) ps) ≡ map (λ (p : Param). type_sort p.sort bs) ps
named_sorts bs [] = refl
named_sorts bs (p ∷ ps) = ap (λ z. type_sort p.sort bs ∷ z) (named_sorts bs ps)

with_void : (g : Signature) (ps : Option (List MeantSort)) (r : Option MeantSort) → signature_with ps r ≡ Some g → signature_with ps (Some (or_void r)) ≡ Some g
with_void g None r e = absurd cc
with_void g (Some ps) None e = absurd cc
with_void g (Some ps) (Some r) e = e

of_handler : (bs : List Behavior) (g : Signature) (o : Option Handler) → option_and_then (types.signature_of bs) o ≡ Some g → signature_of bs o ≡ Some g
unfolding types.signature_of
of_handler bs g None e = absurd cc
of_handler bs g (Some h) e =
    ap (λ z. signature_with (all_some z) (Some (or_void (result_sort h.result bs)))) (named_sorts bs h.params)
    ∙ with_void g (all_some (map (λ (p : Param). type_sort p.sort bs) h.params)) (result_sort h.result bs) e

of_behavior : (bs : List Behavior) (g : Signature) (k : ℕ) (o : Option Behavior) → option_and_then (types.signature_of bs) (slice_get (handlers_in o) k) ≡ Some g → signature_in bs o k ≡ Some g
of_behavior bs g k None e = absurd cc
of_behavior bs g k (Some b) e = of_handler bs g (slice_get (handlers_of b) k) e

pub at_number : (bs : List Behavior) (n : ℕ) → handlers_at bs (Some n) ≡ handlers_in (slice_get bs n)
at_number bs n = by (slice_get bs n) refl
  where
    by : (o : Option Behavior) → slice_get bs n ≡ o → handlers_at bs (Some n) ≡ handlers_in (slice_get bs n)
    by None e = rw e refl
    by (Some b) e = rw e refl

same_signature : (p : Program) (n k : ℕ) (g : Signature) → types.signature_at n k p ≡ Some g → signature_in p.behaviors (slice_get p.behaviors n) k ≡ Some g
unfolding types.signature_at
same_signature p n k g e = of_behavior p.behaviors g k (slice_get p.behaviors n) (sym (ap (λ z. option_and_then (types.signature_of p.behaviors) (slice_get z k)) (at_number p.behaviors n)) ∙ e)

-- ---- typed calls

abbrev pub Numbers : List Behavior → List Sort → List MeantSort → Type 0
Numbers bs ss ts = Pairwise (λ s t. number_sort s bs ≡ Some t) ss ts

pub record IsAddressed (p : Program) (r : Context) (handler : List ℕ) (number : ℕ) (callee : HandlerType) : Type 0 where
  pub signature : Signature
  pub is : signature_at (signatures p) (actor_handler_id handler (Some number) r).behavior (actor_handler_id handler (Some number) r).handler ≡ Some signature
  pub params : Numbers p.behaviors callee.params signature.params
  pub result : number_sort callee.result p.behaviors ≡ Some signature.result

migrate_addressed : (p : Program) (r : Context) (handler : List ℕ) (number : ℕ) → bytes_eq handler (codes "migrate") ≡ true → IsAddressed p r handler number migrate_type
unfolding number_sort
migrate_addressed p r handler number e = record { signature = migrate_signature; is = rw e refl; params = (refl, tt); result = refl }

split_numbers : (n : ℕ) (o : Option ℕ) (ns : ℕ × ℕ) → with_behavior n o ≡ Some ns → (n ≡ ns.0) × (o ≡ Some ns.1)
split_numbers n None ns e = absurd cc
split_numbers n (Some k) ns e = let same : (n, k) ≡ ns = some_is e in (ap (λ (z : ℕ × ℕ). z.0) same, ap (λ (z : ℕ × ℕ). Some z.1) same)

found_numbers : (p : Program) (behavior handler : List ℕ) (number : ℕ) (ns : ℕ × ℕ) → behavior_by_name behavior p.behaviors ≡ Some number → numbers_by_name behavior handler p ≡ Some ns → (number ≡ ns.0) × (handler_by_name handler (handlers_at p.behaviors (Some number)) ≡ Some ns.1)
unfolding numbers_by_name
found_numbers p behavior handler number ns b e =
    split_numbers number (handler_by_name handler (handlers_at p.behaviors (Some number))) ns
    (sym (ap (option_and_then (λ n. with_behavior n (handler_by_name handler (handlers_at p.behaviors (Some n))))) b) ∙ e)

other_addressed : (p : Program) (r : Context) (handler : List ℕ) (number : ℕ) (callee : HandlerType) → r.behaviors ≡ p.behaviors → number < RESERVED → bytes_eq handler (codes "migrate") ≡ false → (k : ℕ) → handler_by_name handler (handlers_at p.behaviors (Some number)) ≡ Some k
    → (g : Signature) → types.signature_at number k p ≡ Some g → Numbers p.behaviors callee.params g.params → number_sort callee.result p.behaviors ≡ Some g.result → IsAddressed p r handler number callee
other_addressed p r handler number callee same low e k found g is params result = record {
  signature = g;
  is =
      let at : or_no_number (handler_by_name handler (handlers_at r.behaviors (Some number))) ≡ k = ap (λ z. or_no_number (handler_by_name handler (handlers_at z (Some number)))) same ∙ ap or_no_number found in
      let there : signature_at (signatures p) number k ≡ Some g = ap (λ b. if b then Some migrate_signature else signature_in p.behaviors (slice_get p.behaviors number) k) (no_output number k low) ∙ same_signature p number k g is in
      rw e (ap (signature_at (signatures p) number) at ∙ there);
  params = params;
  result = result;
}

migrate_there : (b : Bool) (o : Option HandlerType) (c : HandlerType) → b ≡ true → (if b then Some migrate_type else o) ≡ Some c → migrate_type ≡ c
migrate_there true o c e h = some_is h
migrate_there false o c e h = absurd cc

callee_is : (handler : List ℕ) (o : Option Behavior) (c : HandlerType) → is_migrate handler ≡ true → handler_with_name handler o ≡ Some c → migrate_type ≡ c
unfolding handler_with_name
callee_is handler o c e h = migrate_there (is_migrate handler) _ c e h

same_test : (handler : List ℕ) → is_migrate handler ≡ bytes_eq handler (codes "migrate")
unfolding is_migrate
same_test handler = refl

-- in a typed program a typed call to an actor is addressed so
pub call_addressed : (p : Program) → IsTyped p → (env : Environment) → env.behaviors ≡ p.behaviors → (r : Context) → r.behaviors ≡ p.behaviors → (behavior handler : List ℕ) (args : List Sort) (reply : Sort)
    → (c : IsCall env behavior handler args reply) → IsAddressed p r handler c.number c.callee
call_addressed p typed env same r there behavior handler args reply c = by (is_migrate handler) refl
  where
    by : (b : Bool) → is_migrate handler ≡ b → IsAddressed p r handler c.number c.callee
    by true e = subst (IsAddressed p r handler c.number) (callee_is handler (behavior_with_name behavior env) c.callee e c.is_there) (migrate_addressed p r handler c.number (sym (same_test handler) ∙ e))
    by false e =
        let s = calls_have_signatures p typed env same behavior handler args reply c e in
        let named : behavior_by_name behavior p.behaviors ≡ Some c.number = ap (behavior_by_name behavior) (sym same) ∙ c.numbered in
        let low : c.number < RESERVED = valid_name behavior p.behaviors c.number named in
        let found = found_numbers p behavior handler c.number s.numbers named s.numbered in
        let is : types.signature_at c.number s.numbers.1 p ≡ Some s.signature = ap (λ n. types.signature_at n s.numbers.1 p) found.0 ∙ s.is in
        other_addressed p r handler c.number c.callee there low (sym (same_test handler) ∙ e) s.numbers.1 found.1 s.signature is s.params s.result
