use Rattle.std.proofs.Common.{sym, subst}
use Rattle.sal_value.specs.declared.name.Name.TheVariants.{Anon}
use Rattle.sal_value.specs.declared.value.Value.TheVariants.{Null}
use Rattle.sal_mail.specs.declared.message.Reply.TheVariants.{Tok}
use Rattle.sal_book.specs.Book.{Book}
use Rattle.sal_book.specs.Laws.{AreMadeBy}
use Rattle.sal_book.proofs.Makers.{makers_stay}
use Rattle.sal_book.proofs.tests.give_token.Goals as goal

pub returns : goal.returns
returns c =
    let P : Book → Type 0 = λ b. AreMadeBy (Anon 0 0) b.messages in
    subst P (sym c.in_ok-released.ensures.ok) (makers_stay.reply (Anon 0 0) (Tok (Anon 0 0) c.args.number) Null c.args.book.now c.requires)
