use Rattle.path_time.specs.Links.{Added, IsWithin}
use Rattle.path_time.proofs.links.add_links_to.Given as goal

-- the links to the rows so far
abbrev pub invariant-loop-to : goal.invariant-loop-to
invariant-loop-to l = Added l.subject.rom l.subject.cert l.from (IsWithin l.initial.to l.to) l.fn.links.items l.links.items
