-- What is known of the members of a typed program.
use Rattle.std.specs.Prelude.{◌≡◌, ◌≤◌, ℕ, false, List, [], ◌∷◌, length, slice_get, Some}
use Rattle.sal_ast.specs.declared.program.Param.{Param}
use Rattle.sal_ast.specs.declared.program.Behavior.{Behavior}
use Rattle.sal_ast.specs.declared.program.Program.{Program}
use Rattle.sal_ast.specs.declared.statement.Stmt.{Stmt}
use Rattle.sal_ast.specs.Members.{Field, Handler, fields_of, handlers_of, constructor_of, behavior_by_name}
use Rattle.sal_sorts.specs.declared.sort.Base.TheVariants.{Void}
use Rattle.sal_sorts.specs.declared.sort.Sort.{Sort}
use Rattle.sal_sorts.specs.declared.variable.MemberKind.{MemberKind}
use Rattle.sal_sorts.specs.declared.variable.MemberKind.TheVariants as kind
use Rattle.sal_sorts.specs.Sorts.{plain, sort_of_type, sort_of_result}
use Rattle.sal_sorts.specs.Environments.{Environment, member_environment, new_variable, with_variable, is_migrate}
use Rattle.sal_types.specs.Programs.{IsTyped}
use Rattle.sal_types.specs.Signatures.{start_numbers}
use Rattle.sal_typing.specs.Known.{IsKnown}
use Rattle.sal_typing.specs.Parts.{IsWritten}
use Rattle.sal_typing.specs.StatementParts.{SequenceParts, ValueParts}

-- with these parameters in scope
abbrev pub with_params : Environment → List Param → Environment
with_params env [] = env
with_params env (q ∷ qs) = with_params (with_variable env (new_variable q.name (sort_of_type q.sort) false)) qs

-- parameters and the statements after them, in the behaviour with this number
pub record BodyIsTyped (env : Environment) (mine : ℕ) (params : List Param) (body : List Stmt) : Type 0 where
  pub few : length params ≤ 16
  pub known : IsKnown (with_params env params) mine
  pub results : List Sort
  pub parts : SequenceParts body (with_params env params) results

-- where a member of this kind and with this result stands
abbrev pub environment_of : Program → Behavior → MemberKind → Sort → Environment
environment_of p b member result = member_environment p.behaviors b.name.text member result

-- a field, with its initialiser
pub record FieldIsTyped (env : Environment) (mine : ℕ) (f : Field) : Type 0 where
  pub known : IsKnown env mine
  pub written : IsWritten f.sort env (sort_of_type f.sort)
  pub value : ValueParts f.init env (sort_of_type f.sort)

-- Each member of a typed program is typed: each field of a behaviour, its constructor, and each of its handlers, none of which
-- is named `migrate`.
pub record BehaviorIsTyped (p : Program) (b : Behavior) (mine : ℕ) : Type 0 where
  pub numbered : behavior_by_name b.name.text p.behaviors ≡ Some mine
  pub few_fields : length (fields_of b) ≤ 64
  pub few_handlers : length (handlers_of b) ≤ 64
  pub fields : (k : ℕ) (f : Field) → slice_get (fields_of b) k ≡ Some f → FieldIsTyped (environment_of p b kind.Initialiser (plain Void)) mine f
  pub constructors : (c : Handler) → constructor_of b ≡ Some c → BodyIsTyped (environment_of p b kind.Constructor (plain Void)) mine c.params c.body
  pub handlers : (k : ℕ) (h : Handler) → slice_get (handlers_of b) k ≡ Some h
      → BodyIsTyped (environment_of p b kind.Handler (sort_of_result h.result)) mine h.params h.body × (is_migrate h.name ≡ false)

-- There are few behaviours, each is typed and has its number by its name, and one has a start.
pub record ProgramIsTyped (p : Program) : Type 0 where
  pub few : length p.behaviors ≤ 64
  pub start : ℕ × ℕ
  pub starts : start_numbers p ≡ Some start
  pub behaviors : (n : ℕ) (b : Behavior) → slice_get p.behaviors n ≡ Some b → BehaviorIsTyped p b n

-- of every typed program
abbrev pub ProgramsHaveParts : Type 0
ProgramsHaveParts = (p : Program) → IsTyped p → ProgramIsTyped p
