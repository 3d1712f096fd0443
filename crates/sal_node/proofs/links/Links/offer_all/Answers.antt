use Rattle.std.proofs.Common.{◌≡◌, List, ℕ, ap, sym, ◌∙◌, rules, length, arith}
use Rattle.sal_node.specs.code.Withdrawing.{lengths_of}
use Rattle.sal_node.proofs.Withdrawing.{none_stays, extend_length, failed_extends}
use Rattle.sal_node.proofs.links.Links.offer_all.Goals as goal

pub withdraw_all-requires : goal.withdraw_all-requires
withdraw_all-requires c =
    let counts : c.as_slice-in-Err.result.now ≡ lengths_of c.args.self.now = search rules in
    let same = extend_length c.args.self.now c.offer_each.new.self (failed_extends c.args.parcels.now c.args.self.now c.offer_each.new.self c.in-Err.fault (search rules)) in
    omega (arith, ap length counts, same)

pub returns : goal.returns
returns c =
    none_stays c.args.parcels.now c.args.self.now c.offer_each.new.self c.withdraw_all.new.self _ c.in-Err.fault (search rules) (search rules) c.withdraw_all.ensures
