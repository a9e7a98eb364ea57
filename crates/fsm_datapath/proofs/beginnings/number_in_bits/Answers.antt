use Rattle.fsm_datapath.proofs.Beginning.{number_carries}
use Rattle.fsm_datapath.proofs.beginnings.number_in_bits.Goals as goal

pub returns : goal.returns
returns c = λ p names d. number_carries p names d c.args.number c.args.bits c.constant.result c.requires.some c.requires.few c.requires.fits c.constant.ensures
