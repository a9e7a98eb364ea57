mod LinkedStages
