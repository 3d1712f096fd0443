use Rattle.std.proofs.Common.{◌≡◌, map, take}
use Rattle.sal_book.specs.code.Versions.{new_version}
use Rattle.sal_book.proofs.messages.new_versions.Given as goal

abbrev pub invariant-loop-message : goal.invariant-loop-message
invariant-loop-message l = l.versions.items ≡ map (new_version l.number l.value) (take l.message-index l.messages)
