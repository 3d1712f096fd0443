use Rattle.std.proofs.Common.{◌≡◌, List, map, Option, Some, option_map, sym, ap, ◌∙◌}
use Rattle.sal_ast.specs.declared.program.Ident.{Ident}
use Rattle.sal_ast.specs.declared.program.TypeName.{TypeName}
use Rattle.sal_ast.specs.declared.program.Param.{Param}
use Rattle.sal_ast.specs.declared.program.Member.{Member}
use Rattle.sal_ast.specs.declared.program.Member.TheVariants as m
use Rattle.sal_ast.specs.declared.program.Behavior.{Behavior}
use Rattle.sal_ast.specs.declared.statement.Stmt.{Stmt}
use Rattle.sal_ast.specs.Members.{as_handler}
use Rattle.sal_ast.specs.Sorts.{type_sort, result_sort}
use Rattle.sal_types.specs.declared.signature.Signature.{Signature}
use Rattle.sal_types.specs.Signatures.{all_some, signature_with, signature_of}
use Rattle.sal_types.proofs.signing.signature_if_handler.Goals as goal

of_handler : (behaviors : List Behavior) (x : Member) (name : Ident) (result : Option TypeName) (params slice : List Param) (body : List Stmt) (s : Option Signature)
    → x ≡ m.Handler result name params body → slice ≡ params
    → s ≡ signature_with (all_some (map (λ p. type_sort p.sort behaviors) slice)) (result_sort result behaviors)
    → Some s ≡ option_map (signature_of behaviors) (as_handler x)
unfolding signature_of
of_handler behaviors x name result params slice body s e q h =
    ap (λ o. Some o) h
    ∙ ap (λ l. Some (signature_with (all_some (map (λ (p : Param). type_sort p.sort behaviors) l)) (result_sort result behaviors))) q
    ∙ ap (λ y. option_map (signature_of behaviors) (as_handler y)) (sym e)

pub returns-in_ok-signature-in-Handler : goal.returns-in_ok-signature-in-Handler
returns-in_ok-signature-in-Handler c =
    of_handler c.args.behaviors.now c.args.member.now c.in-Handler.name c.in-Handler.result c.in-Handler.params c.as_slice.result.now c.in-Handler.body c.in_ok-signature-in-Handler.signature
    (cc c.in-Handler.is) (cc c.as_slice.ensures) (cc c.in_ok-signature-in-Handler.ensures)
