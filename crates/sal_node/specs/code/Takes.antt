-- What code answers of a datagram, with the links after it.
use Rattle.std.specs.Prelude.{List}
use Rattle.sal_carriage.specs.Link.{Link}
use Rattle.sal_node.specs.declared.parcel.Took.{Took}
use Rattle.sal_node.specs.Links.{Taking}

abbrev pub taking_of : Took → List Link → Taking
taking_of t links = record { taken = t.taken; changed = t.changed; links = links }
