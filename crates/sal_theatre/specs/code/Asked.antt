-- A name for which its naming service was asked.
use Rattle.sal_value.specs.declared.name.Uan.{Uan}
use Rattle.sal_routing.specs.declared.pending.Asking.{Asking}
use Rattle.sal_routing.specs.declared.pending.Question.{Question}

abbrev pub question : Uan → Asking → Question
question u asking = record { name = u; asking = asking }
