mod Harvests
