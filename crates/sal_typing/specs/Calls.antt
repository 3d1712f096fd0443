-- Calls in typed programs, by the numbers of their handlers.
use Rattle.std.specs.Prelude.{◌≡◌, ℕ, false, List, Some}
use Rattle.sal_ast.specs.declared.program.Program.{Program}
use Rattle.sal_sorts.specs.declared.sort.Sort.{Sort}
use Rattle.sal_sorts.specs.Environments.{Environment, HandlerType, is_migrate}
use Rattle.sal_types.specs.declared.signature.Signature.{Signature}
use Rattle.sal_types.specs.Programs.{IsTyped}
use Rattle.sal_types.specs.Signatures.{numbers_by_name, signature_at}
use Rattle.sal_typing.specs.Numbers.{number_sort}
use Rattle.sal_typing.specs.Parts.{Pairwise, IsCall}

-- a handler of these names with its numbers; its signature has the types that it takes and gives
pub record HasSignature (p : Program) (behavior handler : List ℕ) (callee : HandlerType) : Type 0 where
  pub numbers : ℕ × ℕ
  pub numbered : numbers_by_name behavior handler p ≡ Some numbers
  pub signature : Signature
  pub is : signature_at numbers.0 numbers.1 p ≡ Some signature
  pub params : Pairwise (λ s t. number_sort s p.behaviors ≡ Some t) callee.params signature.params
  pub result : number_sort callee.result p.behaviors ≡ Some signature.result

-- In a typed program a call of any handler but `migrate` is one of a handler with a signature.
abbrev pub CallsHaveSignatures : Type 0
CallsHaveSignatures =
    (p : Program) → IsTyped p → (env : Environment) → env.behaviors ≡ p.behaviors → (behavior handler : List ℕ) (args : List Sort) (reply : Sort)
    → (c : IsCall env behavior handler args reply) → is_migrate handler ≡ false → HasSignature p behavior handler c.callee
