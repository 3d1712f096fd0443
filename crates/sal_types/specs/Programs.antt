-- Which programs are typed, and how the others are refused.
use Rattle.std.specs.Prelude.{◌≡◌, ◌≤◌, ℕ, true, not, List, [], ◌∷◌, ◌++◌, length, map, sum_by, Result, Ok, Err}
use Rattle.std.specs.List.{list_all, list_any}
use Rattle.sal_ast.specs.declared.constants.TheConstants.{LONGEST_PROGRAM}
use Rattle.sal_ast.specs.declared.program.Ident.{Ident}
use Rattle.sal_ast.specs.declared.program.Behavior.{Behavior}
use Rattle.sal_ast.specs.declared.program.Program.{Program}
use Rattle.sal_ast.specs.Depth.{depth}
use Rattle.sal_ast.specs.Lexemes.{is_lexeme}
use Rattle.sal_ast.specs.Regular.{is_regular}
use Rattle.sal_ast.specs.Spell.{spell}
use Rattle.sal_sorts.specs.declared.fault.TypeFault.{TypeFault}
use Rattle.sal_sorts.specs.declared.fault.TypeFault.TheVariants as fault
use Rattle.sal_sorts.specs.Verdicts.{Violation, Verdict, Good, ◌also◌, node, map_verdict, rule, violations}
use Rattle.sal_types.specs.Members.{count_rules, is_among, members_verdict}
use Rattle.sal_types.specs.Signatures.{has_act}

-- ---- behaviours

-- the names of these behaviours
abbrev pub behavior_names : List Behavior → List (List ℕ)
behavior_names bs = map (λ b. b.name.text) bs

-- Y1: a second behaviour has this name
abbrev pub behavior_name_rules : Ident → List Behavior → List Violation
behavior_name_rules name before = rule 1 name.at (not (is_among name.text (behavior_names before)))

-- a behaviour of this program, after these behaviours
abbrev pub behavior_verdict : List Behavior → List Behavior → Behavior → Verdict (Unit {0})
behavior_verdict behaviors before b =
    node (members_verdict behaviors b.name.text [] b.members)
    (λ u. behavior_name_rules b.name before ++ count_rules 64 (length before) b.name.at)
    (λ u. tt)

-- these behaviours of this program, after those before them
abbrev pub behaviors_verdict : List Behavior → List Behavior → List Behavior → Verdict (Unit {0})
behaviors_verdict behaviors before [] = Good tt
behaviors_verdict behaviors before (b ∷ bs) =
    map_verdict (λ p. tt) (behavior_verdict behaviors before b also behaviors_verdict behaviors (before ++ b ∷ []) bs)

-- ---- programs

-- Y12: no behaviour has `void act(String[] x)`
abbrev pub start_rules : List Behavior → List Violation
start_rules behaviors = rule 12 0 (list_any has_act behaviors)

-- a program: its behaviours, and then the start
abbrev pub program_verdict : Program → Verdict (Unit {0})
program_verdict p = node (behaviors_verdict p.behaviors [] p.behaviors) (λ u. start_rules p.behaviors) (λ u. tt)

-- all violations, in postorder, and those of one node in the order of the rules
unfoldable pub violations_of : Program → List Violation
violations_of p = violations (program_verdict p)

-- nothing is violated
abbrev pub IsTyped : Program → Type 0
IsTyped p = violations_of p ≡ []

-- the first of these violations is v
abbrev pub BeginsWith : List Violation → Violation → Type 0
BeginsWith vs v = (more : List Violation) × (vs ≡ v ∷ more)

-- ---- what is asked of a program before its types are judged

-- it is regular and not too deep, its tokens keep the lexical rules, and their texts aren't too long together; so are the
-- programs of a parser
pub record IsReadable (p : Program) : Type 0 where
  pub regular : is_regular p ≡ true
  pub shallow : depth p ≤ 64
  pub lexical : list_all (λ t. is_lexeme t.kind t.text) (spell p) ≡ true
  pub short : sum_by (λ t. length t.text) (spell p) ≤ LONGEST_PROGRAM

-- what is known of a program that was accepted
pub record IsAccepted (p : Program) : Type 0 where
  pub readable : IsReadable p
  pub typed : IsTyped p

-- accepted exactly where nothing is violated, and else refused by the first violation, unless memory ran out
abbrev pub Decides : Program → Result Program TypeFault → Type 0
Decides p (Ok t) = IsTyped p × (t ≡ p)
Decides p (Err (fault.Refused number at)) = BeginsWith (violations_of p) (number, at)
Decides p (Err fault.Memory) = Unit {0}
