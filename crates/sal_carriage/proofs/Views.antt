-- What is seen of frames and links.
use Rattle.sal_carriage.specs.declared.frame.Frame.TheInside as frame
use Rattle.sal_carriage.specs.declared.link.Link.TheInside as link
use Rattle.sal_carriage.specs.Frames.{Frame}
use Rattle.sal_carriage.specs.Link.{Link}

abbrev pub frame_in : frame.Inside → Frame
frame_in f = record {
  program = f.program;
  from = f.from;
  to = f.to;
  is_data = f.is_data;
  number = f.number;
  wanted = f.wanted;
  last = f.last;
  payload = f.payload.now;
}

abbrev pub link_in : link.Inside → Link
link_in l = record {
  program = l.program;
  me = l.me;
  peer = l.peer;
  unacknowledged = l.unacknowledged;
  acknowledged = l.acknowledged;
  wanted = l.wanted;
  part = l.part;
  owes = l.owes;
}
