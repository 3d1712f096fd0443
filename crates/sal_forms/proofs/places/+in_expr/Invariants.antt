use Rattle.std.proofs.Common.{◌≡◌, drop}
use Rattle.std.specs.List.{list_any}
use Rattle.sal_forms.specs.Places as spec
use Rattle.sal_forms.proofs.places.+in_expr.Given as goal

abbrev pub invariant-in_exprs-loop-item : goal.invariant-in_exprs-loop-item
invariant-in_exprs-loop-item l = list_any spec.expr_names_places (drop l.item-index l.items) ≡ list_any spec.expr_names_places l.items

abbrev pub invariant-in_operands-loop-operand : goal.invariant-in_operands-loop-operand
invariant-in_operands-loop-operand l = list_any spec.operand_names_places (drop l.operand-index l.rest) ≡ list_any spec.operand_names_places l.rest

abbrev pub invariant-in_suffixes-loop-suffix : goal.invariant-in_suffixes-loop-suffix
invariant-in_suffixes-loop-suffix l = list_any spec.suffix_names_places (drop l.suffix-index l.rest) ≡ list_any spec.suffix_names_places l.rest
