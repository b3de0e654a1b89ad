-- The keys of annotations, by their names.
use Rattle.std.proofs.Common.{◌≡◌, List, ℕ, arith, inl, refl}
use Rattle.std.specs.Prelude.{codes, Contains}
use Rattle.annotations.specs.Said.{NamesKeyOf, NamesOnly, known_keys}
use Rattle.annotations.specs.declared.fault.AnnotationFault.{AnnotationFault}
use Rattle.annotations.specs.declared.fault.AnnotationFault.TheVariants.{Key, NoMemory, Text}
use Rattle.toml.specs.Data.{Members}

-- a fault that names only a key that annotations have names one of those
names_known : (name : List ℕ) (members : Members) (fault : AnnotationFault) → Contains known_keys name → NamesOnly name fault → NamesKeyOf members fault
names_known _ _ Text _ _ = tt
names_known _ _ (Key key) known only = inl (rw only known)
names_known _ _ NoMemory _ _ = tt

pub nmi_known : (members : Members) (fault : AnnotationFault) → NamesOnly (codes "nmi") fault → NamesKeyOf members fault
nmi_known members fault only = names_known (codes "nmi") members fault (2, omega arith, refl) only

pub budget_known : (members : Members) (fault : AnnotationFault) → NamesOnly (codes "budget") fault → NamesKeyOf members fault
budget_known members fault only = names_known (codes "budget") members fault (3, omega arith, refl) only

pub inline_known : (members : Members) (fault : AnnotationFault) → NamesOnly (codes "inline") fault → NamesKeyOf members fault
inline_known members fault only = names_known (codes "inline") members fault (4, omega arith, refl) only

pub split_known : (members : Members) (fault : AnnotationFault) → NamesOnly (codes "split") fault → NamesKeyOf members fault
split_known members fault only = names_known (codes "split") members fault (5, omega arith, refl) only

pub fact_known : (members : Members) (fault : AnnotationFault) → NamesOnly (codes "fact") fault → NamesKeyOf members fault
fact_known members fault only = names_known (codes "fact") members fault (6, omega arith, refl) only

pub loop_known : (members : Members) (fault : AnnotationFault) → NamesOnly (codes "loop") fault → NamesKeyOf members fault
loop_known members fault only = names_known (codes "loop") members fault (7, omega arith, refl) only

pub cell_known : (members : Members) (fault : AnnotationFault) → NamesOnly (codes "cell") fault → NamesKeyOf members fault
cell_known members fault only = names_known (codes "cell") members fault (8, omega arith, refl) only

pub map_known : (members : Members) (fault : AnnotationFault) → NamesOnly (codes "map") fault → NamesKeyOf members fault
map_known members fault only = names_known (codes "map") members fault (9, omega arith, refl) only
