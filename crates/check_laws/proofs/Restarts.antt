-- What a restart is.
use Rattle.std.proofs.Common.{◌≡◌, ℕ, Bool, true, false, not, Option, Some, None, Ok, refl, ap}
use Rattle.std.specs.Prelude.{◌&&◌, IsSome, is_some}
use Rattle.z80_decode.specs.declared.instr.Instr.{Instr}
use Rattle.z80_decode.specs.declared.instr.Instr.TheVariants as instrs
use Rattle.z80_decode.specs.declared.operands.Register16.TheVariants as registers
use Rattle.cert_lines.specs.declared.proc.Proc.{Proc}
use Rattle.cert_lines.specs.declared.proc.ProcKind.{ProcKind}
use Rattle.cert_lines.specs.declared.proc.ProcKind.TheVariants.{Main, Nmi as NmiKind, Sub}
use Rattle.cert_lines.specs.declared.version.Version.{Version}
use Rattle.cert_lines.specs.declared.version.Version.TheVariants.{One, Two, Three}
use Rattle.check_rules.specs.Table.{IsTimed}
use Rattle.address_map.specs.declared.region.Region.{Region}
use Rattle.abs_step.specs.Contained.{SetsTop}
use Rattle.check_steps.specs.Restarts.{is_sub, loads_sp, restarts_by}

-- a called procedure without a time loads SP with some word, in version 3
pub record IsRestartBy (version : Version) (proc : Proc) (instr : Instr) : Type 0 where
  pub version_is : version ≡ Three
  pub sub : proc.kind ≡ Sub
  pub untimed : IsTimed proc → ⊥
  pub word : ℕ
  pub loads : instr ≡ instrs.LoadPair registers.Sp word

-- a called procedure without a time loads SP with the region's top, in version 3
pub record IsRestart (version : Version) (proc : Proc) (top : ℕ) (instr : Instr) : Type 0 where
  pub version_is : version ≡ Three
  pub sub : proc.kind ≡ Sub
  pub untimed : IsTimed proc → ⊥
  pub loads : instr ≡ instrs.LoadPair registers.Sp top

pub missing : (P : Type 0) → (let b : Bool = false in b) ≡ true → P
missing P e = absurd (cc)

both_true : (a b : Bool) → (a && b) ≡ true → (a ≡ true) × (b ≡ true)
both_true true b e = (refl, e)
both_true false b e = missing _ e

sub_kind : (k : ProcKind) → is_sub k ≡ true → k ≡ Sub
sub_kind Main e = missing _ e
sub_kind NmiKind e = missing _ e
sub_kind Sub e = refl

no_time : (t : Option ℕ) → not (is_some t) ≡ true → IsSome t → ⊥
no_time None e h = cc
no_time (Some t) e h = missing _ e

sp_loaded : (instr : Instr) → loads_sp instr ≡ true → (nn : ℕ) × (instr ≡ instrs.LoadPair registers.Sp nn)
sp_loaded (instrs.LoadPair registers.Sp nn) e = (nn, refl)
sp_loaded _ e = missing _ e

pub restart_is : (version : Version) (proc : Proc) (instr : Instr) → restarts_by version proc (Ok instr) ≡ true → IsRestartBy version proc instr
restart_is One proc instr e = missing _ e
restart_is Two proc instr e = missing _ e
restart_is Three proc instr e =
    let first = both_true (is_sub proc.kind) (not (is_some proc.time) && loads_sp instr) e in
    let second = both_true (not (is_some proc.time)) (loads_sp instr) first.1 in
    let loaded = sp_loaded instr second.1 in
    record { version_is = refl; sub = sub_kind proc.kind first.0; untimed = no_time proc.time second.0; word = loaded.0; loads = loaded.1 }

-- what sets SP to the region's top loads that word
pub restart_at_top : (version : Version) (proc : Proc) (main : Bool) (region : Region) (instr : Instr) → IsRestartBy version proc instr → SetsTop main region instr → IsRestart version proc region.top instr
restart_at_top version proc main region instr r sets = record { version_is = r.version_is; sub = r.sub; untimed = r.untimed; loads = sets.1 }
